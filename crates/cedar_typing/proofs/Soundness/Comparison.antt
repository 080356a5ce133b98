-- `<` and `<=` do not go wrong.
use Rattle.std.proofs.Common.{◌≡◌, Bool, true, false, ◌&&◌, ◌||◌, List, [], ◌∷◌, map, Option, Some, None, if◌then◌else◌, ℤ, refl, sym, ◌∙◌}
use Rattle.std.proofs.Common.{ap, subst, true≢false}
use Rattle.std.specs.List.{list_any}
use Rattle.cedar_types.specs.declared.base.location.Loc.{Loc}
use Rattle.cedar_types.specs.declared.base.expressions.operators.BinaryOp.{BinaryOp}
use Rattle.cedar_types.specs.declared.base.types.BoolType.TheVariants.{AnyBool}
use Rattle.cedar_types.specs.Names.{Path, path_eq}
use Rattle.cedar_types.specs.Lemmas.Comparisons.{and_left, and_right, and_both, path_same}
use Rattle.cedar_types.specs.Types.{Ty, TNever, TBool, TLong, TExtension}
use Rattle.cedar_types.specs.Expressions.View.{Written}
use Rattle.cedar_types.specs.Types.Bounds.{ty_eq, is_never}
use Rattle.cedar_types.specs.Errors.{Finding}
use Rattle.cedar_types.specs.Values.{Value, VBool, VLong, VExtension, IsLong, HasType}
use Rattle.cedar_types.proofs.Comparisons.SameTypes.{ty_to}
use Rattle.cedar_typing.specs.Capabilities.{no_caps}
use Rattle.cedar_typing.specs.Eager.{Decision, gives, gives_unless}
use Rattle.cedar_typing.specs.Evaluation.Eval.{compared}
use Rattle.cedar_typing.specs.Evaluation.Outcomes.{on_value}
use Rattle.cedar_typing.specs.Evaluation.World.{World, TypeFailure, has_pair, Outcome, Gives, Fails}
use Rattle.cedar_typing.specs.Rules.Numbers.{is_comparable, beside_never, compares, comparison_form}
use Rattle.cedar_typing.specs.Soundness.{HasFound, IsSafe}
use Rattle.cedar_typing.specs.TypeEnv.{TypeEnv}
use Rattle.cedar_typing.proofs.KeptTypes.Eager.{decided_type}
use Rattle.cedar_typing.proofs.KeptTypes.Operators.{compares_is}
use Rattle.cedar_typing.proofs.Soundness.Eager.{AllFound, AreTypes, GiftIsSound, SoundForm}
use Rattle.cedar_typing.proofs.Soundness.FixedTypes.{silent_gift}

-- ---- values that are compared

module _ (types : List Path) (test : ℤ → ℤ → Bool) (pairs : List (Value × Value)) where
  extension_typed : (b : Bool) (v w : Value)
      → HasFound (Some (TBool AnyBool)) (if b then Gives (VBool (has_pair pairs v w)) else Fails TypeFailure)
  extension_typed true v w = tt
  extension_typed false v w = tt

  compared_typed : (v w : Value) → HasFound (Some (TBool AnyBool)) (compared types test pairs v w)
  compared_typed (VLong m) (VLong n) = tt
  compared_typed (VExtension n s) (VExtension m t) = extension_typed _ (VExtension n s) (VExtension m t)
  compared_typed v w = tt

  both_typed : (o o' : Outcome) → HasFound (Some (TBool AnyBool)) (on_value o (λ v. on_value o' (compared types test pairs v)))
  both_typed (Gives v) (Gives w) = compared_typed v w
  both_typed (Gives v) (Fails g) = tt
  both_typed (Fails g) o' = tt

  longs_compared : (v w : Value) → IsLong v → IsLong w → IsSafe (compared types test pairs v w)
  longs_compared (VLong m) (VLong n) h k = tt
  longs_compared (VLong m) w h k = absurd k
  longs_compared v w h k = absurd h

  extension_safe : (b : Bool) (v w : Value) → b ≡ true → IsSafe (if b then Gives (VBool (has_pair pairs v w)) else Fails TypeFailure)
  extension_safe true v w h = tt
  extension_safe false v w h = cc

  -- two values of one overloaded type
  extensions_compared : (p : Path) → list_any (path_eq p) types ≡ true → (v w : Value) → HasType (TExtension p) v
      → HasType (TExtension p) w → IsSafe (compared types test pairs v w)
  extensions_compared p e (VExtension n x) (VExtension m y) h k =
      let same = subst (λ z. path_eq n z ≡ true) (h ∙ sym k) (path_same.itself n) in
      let known = subst (λ z. list_any (path_eq z) types ≡ true) (sym h) e in
      extension_safe _ (VExtension n x) (VExtension m y) (and_both (path_eq n m) (list_any (path_eq n) types) same known)
  extensions_compared p e (VExtension n x) w h k = absurd k
  extensions_compared p e v w h k = absurd h

-- ---- types that pass

never_is : (t : Ty) → is_never t ≡ true → t ≡ TNever
never_is TNever h = refl
never_is t h = absurd (true≢false (sym h))

-- an extension type is compared where it is overloaded, and no other type is but Long
extension_is : (p : Path) (ps : List Path) → list_any (ty_eq (TExtension p)) (map TExtension ps) ≡ list_any (path_eq p) ps
extension_is p [] = refl
extension_is p (q ∷ qs) = ap (λ b. path_eq p q || b) (extension_is p qs)

no_extension : (t : Ty) → ((p : Path) → ty_eq t (TExtension p) ≡ false) → (ps : List Path) → list_any (ty_eq t) (map TExtension ps) ≡ false
no_extension t f [] = refl
no_extension t f (p ∷ ps) = λ i. f p i || no_extension t f ps i

-- two values of one type that is compared
module _ (env : TypeEnv) (types : List Path)
    (same_types : (p : Path) → list_any (path_eq p) types ≡ list_any (path_eq p) env.overloaded_types)
    (test : ℤ → ℤ → Bool) (pairs : List (Value × Value)) where
  values_compared : (t : Ty) → is_comparable env t ≡ true → (v w : Value) → HasType t v → HasType t w
      → IsSafe (compared types test pairs v w)
  values_compared TLong c v w h k = longs_compared types test pairs v w h k
  values_compared (TExtension p) c v w h k =
      extensions_compared types test pairs p (same_types p ∙ sym (extension_is p env.overloaded_types) ∙ c) v w h k
  values_compared t c v w h k = absurd (true≢false (sym c ∙ no_extension t (λ p. refl) env.overloaded_types))

module _ (world : World) (types : List Path) (test : ℤ → ℤ → Bool) (pairs : List (Value × Value)) (o o' : Outcome) where
  abbrev both : Outcome
  both = on_value o (λ v. on_value o' (compared types test pairs v))

  left_never : (z : Outcome) → HasFound (Some TNever) z → IsSafe z → IsSafe (on_value z (λ v. on_value o' (compared types test pairs v)))
  left_never (Gives v) h k = absurd h
  left_never (Fails g) h k = k

  right_never : (z z' : Outcome) → HasFound (Some TNever) z' → IsSafe z → IsSafe z'
      → IsSafe (on_value z (λ v. on_value z' (compared types test pairs v)))
  right_never (Gives v) (Gives w) h k k' = absurd h
  right_never (Gives v) (Fails g) h k k' = k'
  right_never (Fails g) z' h k k' = k

  abbrev Gift : Decision → Type 0
  Gift = GiftIsSound world (o ∷ o' ∷ []) both

  gift_unless : (es : List Finding) → (IsSafe o → IsSafe o' → IsSafe both) → Gift (gives_unless es (TBool AnyBool))
  gift_unless [] f = silent_gift world (o ∷ o' ∷ []) both (TBool AnyBool) (λ h. f h.0 h.1.0)
  gift_unless (e ∷ es) f = tt

  gift_if : (b : Bool) (d d' : Decision) → (b ≡ true → Gift d) → Gift d' → Gift (if b then d else d')
  gift_if true d d' f g = f refl
  gift_if false d d' f g = g

  module _ (env : TypeEnv)
      (same_types : (p : Path) → list_any (path_eq p) types ≡ list_any (path_eq p) env.overloaded_types)
      (l l' : Option Loc) where
    both_safe : (t : Ty) → is_comparable env t ≡ true → (z z' : Outcome) → HasFound (Some t) z
        → HasFound (Some t) z' → IsSafe z → IsSafe z'
        → IsSafe (on_value z (λ v. on_value z' (compared types test pairs v)))
    both_safe t c (Gives v) (Gives w) h h' k k' = values_compared env types same_types test pairs t c v w h h'
    both_safe t c (Gives v) (Fails g) h h' k k' = k'
    both_safe t c (Fails g) z' h h' k k' = k

    compares_gift : (s t : Ty) → HasFound (Some s) o → HasFound (Some t) o' → Gift (compares env l l' s t)
    compares_gift s t h h' =
        gift_if (is_never s && is_never t) _ _ (λ e. tt)
        (gift_if (is_never s) _ _
        (λ e. gift_unless (beside_never env l' t) (λ k k'. left_never o (subst (λ z. HasFound (Some z) o) (never_is s e) h) k))
        (gift_if (is_never t) _ _
        (λ e. gift_unless (beside_never env l s) (λ k k'. right_never o o' (subst (λ z. HasFound (Some z) o') (never_is t e) h') k k'))
        (gift_if (is_comparable env s && ty_eq s t)
        _ _ (λ e. one_type s t h h' (and_left (is_comparable env s) (ty_eq s t) e)
        (and_right (is_comparable env s) (ty_eq s t) e)) tt)))
      where
        one_type : (s t : Ty) → HasFound (Some s) o → HasFound (Some t) o' → is_comparable env s ≡ true
            → ty_eq s t ≡ true → Gift (gives (TBool AnyBool) no_caps)
        one_type s t h h' c e =
            let p' = subst (λ z. HasFound (Some z) o') (sym (ty_to s t e)) h' in
            silent_gift world (o ∷ o' ∷ []) both (TBool AnyBool) (λ k. both_safe s c o o' h p' k.0 k.1.0)

    pub comparison_sound : (m : Written) (op : BinaryOp) → SoundForm world (comparison_form env m l l' op) (o ∷ o' ∷ []) both
    comparison_sound m op = record { typed = stays; succeeds = succeeds; failed = λ t h. h }
      where
        stays : (ts : List (Option Ty)) → AreTypes (comparison_form env m l l' op) (o ∷ o' ∷ []) ts
            → HasFound (decided_type ((comparison_form env m l l' op).decides ts)) both
        stays [] a = absurd a.have
        stays (None ∷ ts) a = both_typed types test pairs o o'
        stays (Some s ∷ []) a = absurd a.have.1
        stays (Some s ∷ None ∷ ts) a = both_typed types test pairs o o'
        stays (Some s ∷ Some t ∷ ts) a = subst (λ z. HasFound z both) (sym (compares_is env l l' s t)) (both_typed types test pairs o o')

        succeeds : (ts : List (Option Ty)) → AreTypes (comparison_form env m l l' op) (o ∷ o' ∷ []) ts → AllFound ts
            → Gift ((comparison_form env m l l' op).decides ts)
        succeeds [] a k = absurd a.have
        succeeds (None ∷ ts) a k = absurd k.0
        succeeds (Some s ∷ []) a k = absurd a.have.1
        succeeds (Some s ∷ None ∷ ts) a k = absurd k.1.0
        succeeds (Some s ∷ Some t ∷ ts) a k = compares_gift s t a.have.0 a.have.1.0
