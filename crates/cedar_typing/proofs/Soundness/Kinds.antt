-- `isEmpty`, `like` and `is` do not go wrong.
use Rattle.std.proofs.Common.{◌≡◌, Bool, true, false, true≢false, ◌||◌, not, List, [], ◌∷◌, Option, Some, None, if◌then◌else◌, refl, sym}
use Rattle.std.proofs.Common.{◌∙◌, ap, subst}
use Rattle.std.specs.Prelude.{is_some}
use Rattle.cedar_types.specs.declared.base.expressions.operators.UnaryOp.{UnaryOp}
use Rattle.cedar_types.specs.declared.base.types.BoolType.TheVariants.{AnyBool, True, False}
use Rattle.cedar_types.specs.declared.base.expressions.patterns.PatternElem.{PatternElem}
use Rattle.cedar_types.specs.Names.{Path, path_eq}
use Rattle.cedar_types.specs.Lemmas.Comparisons.{path_same}
use Rattle.cedar_types.specs.Types.{Ty, TNever, TBool, TString, TSet, TAnySet, TEntity, TAnyEntity, sole}
use Rattle.cedar_types.specs.Expressions.Tree.{unary, like}
use Rattle.cedar_types.specs.Expressions.View.{Written}
use Rattle.cedar_types.specs.Schemas.{is_among}
use Rattle.cedar_types.specs.Values.{Value, VBool, VString, VEntity, VSet, no_values, more_values, IsString, OnEntity, OnSet, HasType}
use Rattle.cedar_typing.specs.Evaluation.Eval.{is_empty, is_of, like_outcome}
use Rattle.cedar_typing.specs.Evaluation.Outcomes.{on_value}
use Rattle.cedar_typing.specs.Evaluation.World.{World, Outcome, Gives, Fails}
use Rattle.cedar_typing.specs.Rules.Unary.{is_empty_form, like_form, is_type_of, is_decides, is_form}
use Rattle.cedar_typing.specs.Soundness.{HasFound, IsSafe}
use Rattle.cedar_typing.specs.TypeTests.{accepts, string_types, set_types, entity_types}
use Rattle.cedar_typing.proofs.KeptTypes.Eager.{decided_type}
use Rattle.cedar_typing.proofs.Soundness.Eager.{AllFound, AreTypes, GiftIsSound, SoundForm}
use Rattle.cedar_typing.proofs.Soundness.FixedTypes.{silent_gift, one_value_sound}

-- ---- values of the expected types

pub set_value : (t : Ty) (v : Value) → accepts set_types t ≡ true → HasType t v → OnSet (λ vs. Unit {0}) v
set_value TNever v a h = absurd h
set_value (TSet t) (VSet vs) a h = tt
set_value (TSet t) v a h = absurd h
set_value TAnySet v a h = h
set_value t v a h = absurd (true≢false (sym a))

pub string_value : (t : Ty) (v : Value) → accepts string_types t ≡ true → HasType t v → IsString v
string_value TNever v a h = absurd h
string_value TString v a h = h
string_value t v a h = absurd (true≢false (sym a))

pub entity_value : (t : Ty) (v : Value) → accepts entity_types t ≡ true → HasType t v → OnEntity (λ u. Unit {0}) v
entity_value TNever v a h = absurd h
entity_value (TEntity ps) (VEntity u) a h = tt
entity_value (TEntity ps) v a h = absurd h
entity_value TAnyEntity v a h = h
entity_value t v a h = absurd (true≢false (sym a))

-- ---- `isEmpty`

empty_typed : (v : Value) → HasFound (Some (TBool AnyBool)) (is_empty v)
empty_typed (VSet no_values) = tt
empty_typed (VSet (more_values v vs)) = tt
empty_typed v = tt

empty_safe : (v : Value) → OnSet (λ vs. Unit {0}) v → IsSafe (is_empty v)
empty_safe (VSet no_values) h = tt
empty_safe (VSet (more_values v vs)) h = tt
empty_safe v h = absurd h

pub is_empty_sound : (world : World) (m : Written) (o : Outcome) → SoundForm world (is_empty_form m) (o ∷ []) (on_value o is_empty)
is_empty_sound world m o =
    one_value_sound set_types (TBool AnyBool) is_empty empty_typed (λ s v a h. empty_safe v (set_value s v a h))
    world m (λ k x. unary k UnaryOp.IsEmpty x) o

-- ---- `like`

like_typed : (p : List PatternElem) (v : Value) → HasFound (Some (TBool AnyBool)) (like_outcome p v)
like_typed p (VString t) = tt
like_typed p v = tt

like_safe : (p : List PatternElem) (v : Value) → IsString v → IsSafe (like_outcome p v)
like_safe p (VString t) h = tt
like_safe p v h = absurd h

pub like_sound : (world : World) (m : Written) (p : List PatternElem) (o : Outcome)
    → SoundForm world (like_form m p) (o ∷ []) (on_value o (like_outcome p))
like_sound world m p o =
    one_value_sound string_types (TBool AnyBool) (like_outcome p) (like_typed p)
    (λ s v a h. like_safe p v (string_value s v a h)) world m (λ k x. like k x p) o

-- ---- `is`

is_safe : (n : Path) (v : Value) → OnEntity (λ u. Unit {0}) v → IsSafe (is_of n v)
is_safe n (VEntity u) h = tt
is_safe n v h = absurd h

any_typed : (n : Path) (v : Value) → HasFound (Some (TBool AnyBool)) (is_of n v)
any_typed n (VEntity u) = tt
any_typed n v = tt

alone : (b : Bool) → (b || false) ≡ true → b ≡ true
alone true h = refl
alone false h = h

module _ (n x : Path) where
  -- the type of a test `is n` on an entity of a type x in ps: True if ps has one type alone, else
  -- Bool
  among_it : (ps : List Path) → is_among ps x ≡ true → is_among ps n ≡ true
      → HasType (if is_some (sole ps) then TBool True else TBool AnyBool) (VBool (path_eq x n))
  among_it [] h k = absurd (true≢false (sym h))
  among_it (p ∷ []) h k =
      let x_is = path_same.to x p (alone (path_eq x p) h) in
      let n_is = path_same.to n p (alone (path_eq n p) k) in
      subst (λ z. path_eq x z ≡ true) (x_is ∙ sym n_is) (path_same.itself x)
  among_it (p ∷ q ∷ ps) h k = tt

  -- an entity of a type x in ps is not of the type n, if n is not in ps
  among_others : (ps : List Path) (b : Bool) → path_eq x n ≡ b → is_among ps x ≡ true → is_among ps n ≡ false → path_eq x n ≡ false
  among_others ps true e h k = absurd (true≢false (sym (subst (λ z. is_among ps z ≡ true) (path_same.to x n e) h) ∙ k))
  among_others ps false e h k = e

  by_membership : (ps : List Path) (b : Bool) → is_among ps n ≡ b → is_among ps x ≡ true
      → HasType (if not b then TBool False else if is_some (sole ps) then TBool True
      else TBool AnyBool) (VBool (path_eq x n))
  by_membership ps true k h = among_it ps h k
  by_membership ps false k h = ap not (among_others ps (path_eq x n) refl h k)

  type_is : (ps : List Path) → is_among ps x ≡ true → HasType (is_type_of n ps) (VBool (path_eq x n))
  type_is ps h = by_membership ps (is_among ps n) refl h

entities_typed : (n : Path) (ps : List Path) (v : Value) → HasType (TEntity ps) v → HasFound (Some (is_type_of n ps)) (is_of n v)
entities_typed n ps (VEntity u) h = type_is n u.entity_type ps h
entities_typed n ps v h = absurd h

module _ (world : World) (m : Written) (n : Path) (o : Outcome) where
  any_found : (z : Outcome) → HasFound (Some (TBool AnyBool)) (on_value z (is_of n))
  any_found (Gives v) = any_typed n v
  any_found (Fails f) = tt

  entities_found : (ps : List Path) (z : Outcome) → HasFound (Some (TEntity ps)) z
      → HasFound (Some (is_type_of n ps)) (on_value z (is_of n))
  entities_found ps (Gives v) h = entities_typed n ps v h
  entities_found ps (Fails f) h = tt

  found : (s : Ty) → HasFound (Some s) o → HasFound (decided_type (is_decides n (Some s))) (on_value o (is_of n))
  found (TEntity ps) h = entities_found ps o h
  found s h = any_found o

  outcome_safe : (s : Ty) (z : Outcome) → accepts entity_types s ≡ true → HasFound (Some s) z → IsSafe z → IsSafe (on_value z (is_of n))
  outcome_safe s (Gives v) a h k = is_safe n v (entity_value s v a h)
  outcome_safe s (Fails f) a h k = k

  gift : (s : Ty) → (IsSafe o → IsSafe (on_value o (is_of n))) → GiftIsSound world (o ∷ []) (on_value o (is_of n)) (is_decides n (Some s))
  gift TNever f = tt
  gift s f = silent_gift world (o ∷ []) (on_value o (is_of n)) _ (λ h. f h.0)

  pub is_sound : SoundForm world (is_form m n) (o ∷ []) (on_value o (is_of n))
  is_sound = record { typed = typed; succeeds = succeeds; failed = λ t h. h }
    where
      typed : (ts : List (Option Ty)) → AreTypes (is_form m n) (o ∷ []) ts
          → HasFound (decided_type ((is_form m n).decides ts)) (on_value o (is_of n))
      typed [] a = absurd a.have
      typed (None ∷ ts) a = any_found o
      typed (Some s ∷ ts) a = found s a.have.0

      succeeds : (ts : List (Option Ty)) → AreTypes (is_form m n) (o ∷ []) ts → AllFound ts
          → GiftIsSound world (o ∷ []) (on_value o (is_of n)) ((is_form m n).decides ts)
      succeeds [] a k = absurd a.have
      succeeds (None ∷ ts) a k = absurd k.0
      succeeds (Some s ∷ ts) a k = gift s (outcome_safe s o a.meet.0 a.have.0)
