-- `==`, `contains`, `containsAll` and `containsAny` do not go wrong.
use Rattle.std.proofs.Common.{◌≡◌, Bool, true, false, true≢false, ◌||◌, not, List, [], ◌∷◌, Option, Some, None, if◌then◌else◌, refl, sym, ◌∙◌, ap, subst}
use Rattle.std.specs.List.{list_any}
use Rattle.cedar_types.specs.declared.base.expressions.operators.Var.{Var}
use Rattle.cedar_types.specs.declared.base.expressions.operators.BinaryOp.{BinaryOp}
use Rattle.cedar_types.specs.declared.base.errors.type_errors.LubContext.TheVariants.{Equality, Contains, ContainsAnyAll}
use Rattle.cedar_types.specs.declared.base.types.BoolType.TheVariants.{AnyBool, False}
use Rattle.cedar_types.specs.Names.{Path, Uid, path_eq, uid_eq}
use Rattle.cedar_types.specs.Lemmas.Comparisons.{path_same, uid_same}
use Rattle.cedar_types.specs.Types.{Ty, TNever, TBool, TSet, TAnySet, TEntity}
use Rattle.cedar_types.specs.Expressions.Tree.{Lit, bool, long, string, entity, lit, var, binary}
use Rattle.cedar_types.specs.Expressions.TreeEq.{lit_eq}
use Rattle.cedar_types.specs.Expressions.View.{Written}
use Rattle.cedar_types.specs.Schemas.{is_among}
use Rattle.cedar_types.specs.Types.Bounds.{share_member, are_disjoint}
use Rattle.cedar_types.specs.Environments.RequestEnvs.{Env, Declared, Undeclared}
use Rattle.cedar_types.specs.Errors.{Finding}
use Rattle.cedar_types.specs.Values.{Value, VBool, VEntity, VSet, HasType}
use Rattle.cedar_typing.specs.Capabilities.{no_caps}
use Rattle.cedar_typing.specs.Eager.{Expectation, meets, gives, Form, gives_unless, first_type, second_type, on_two}
use Rattle.cedar_typing.specs.Evaluation.Conformance.{Fits}
use Rattle.cedar_typing.specs.Evaluation.Equality.{same_value}
use Rattle.cedar_typing.specs.Evaluation.Eval.{literal_value, contains, contains_all, contains_any, binary_outcome, eval}
use Rattle.cedar_typing.specs.Evaluation.Outcomes.{on_value}
use Rattle.cedar_typing.specs.Evaluation.World.{World, Outcome, Gives, Fails}
use Rattle.cedar_typing.specs.TypeTests.Joins.{strict_errors}
use Rattle.cedar_typing.specs.Rules.Equality.{action_literal, literal_of, compared_literals, are_apart, equality_type, equality_form, member_type, contains_form, contains_several_form}
use Rattle.cedar_typing.specs.Rules.Leaves.{bool_ty}
use Rattle.cedar_typing.specs.Soundness.{HasFound, IsSafe}
use Rattle.cedar_typing.specs.TypeEnv.{TypeEnv}
use Rattle.cedar_typing.specs.TypeTests.{accepts, set_types, is_any_bool}
use Rattle.cedar_typing.specs.TypedExpr.{TypedTree, Mark, Source}
use Rattle.cedar_typing.proofs.Basics.{or_left, or_right}
use Rattle.cedar_typing.proofs.KeptTypes.Eager.{decided_type}
use Rattle.cedar_typing.proofs.KeptTypes.Equality.{given_type, equality_given}
use Rattle.cedar_typing.proofs.Soundness.Capabilities.{hold_none}
use Rattle.cedar_typing.proofs.Soundness.Eager.{AreTypes, AllHave, AllFound, SoundGift, GiftIsSound, SoundForm}

-- ---- values of disjoint types differ

either_has : (a b c d : Bool) → (a ≡ true → c ≡ true) → (b ≡ true → d ≡ true) → (a || b) ≡ true → (c || d) ≡ true
either_has true b c d f g h = or_left c d (f refl)
either_has false b c d f g h = or_right c d (g h)

any_has : {A : Type 0} (p q : A → Bool) (xs : List A) → ((x : A) → p x ≡ true → q x ≡ true) → list_any p xs ≡ true → list_any q xs ≡ true
any_has p q [] f h = cc
any_has p q (x ∷ xs) f h = either_has (p x) (list_any p xs) (q x) (list_any q xs) (f x) (any_has p q xs f) h

-- a common member
shared : (ps qs : List Path) (p : Path) → is_among ps p ≡ true → is_among qs p ≡ true → share_member ps qs ≡ true
shared ps qs p h k =
    let both : (r : Path) → path_eq p r ≡ true → list_any (path_eq r) qs ≡ true =
    λ r e. subst (λ z. list_any (path_eq z) qs ≡ true) (path_same.to p r e) k in
    any_has (path_eq p) (λ r. list_any (path_eq r) qs) ps both h

entities_differ : (ps qs : List Path) (u v : Uid) → is_among ps u.entity_type ≡ true → is_among qs v.entity_type ≡ true → not (share_member ps qs) ≡ true
    → uid_eq u v ≡ false
entities_differ ps qs u v h k n = go (uid_eq u v) refl
  where
    no : (b : Bool) → b ≡ true → not b ≡ true → ⊥
    no true e f = true≢false (sym f)
    no false e f = true≢false (sym e)

    go : (b : Bool) → uid_eq u v ≡ b → b ≡ false
    go false e = refl
    go true e =
        let f : v.entity_type ≡ u.entity_type = sym (ap (λ (x : Uid). x.entity_type) (uid_same.to u v e)) in
        absurd (no (share_member ps qs) (shared ps qs u.entity_type h (subst (λ z. is_among qs z ≡ true) f k)) n)

apart_entities : (ps qs : List Path) (v w : Value) → not (share_member ps qs) ≡ true → HasType (TEntity ps) v → HasType (TEntity qs) w → same_value v w ≡ false
apart_entities ps qs (VEntity u) (VEntity v) n h k = entities_differ ps qs u v h k n
apart_entities ps qs (VEntity u) w n h k = absurd k
apart_entities ps qs v w n h k = absurd h

apart_values : (s t : Ty) (v w : Value) → are_disjoint s t ≡ true → HasType s v → HasType t w → same_value v w ≡ false
apart_values (TEntity ps) (TEntity qs) v w e h k = apart_entities ps qs v w e h k
apart_values s t v w e h k = cc

apart_found : (s t : Option Ty) (v w : Value) → are_apart s t ≡ true → HasFound s (Gives v) → HasFound t (Gives w) → same_value v w ≡ false
apart_found None t v w e h k = cc
apart_found (Some s) None v w e h k = cc
apart_found (Some s) (Some t) v w e h k = apart_values s t v w e h k

-- ---- literals

literals_same : (x y : Lit) → same_value (literal_value x) (literal_value y) ≡ lit_eq x y
literals_same (bool a) (bool b) = refl
literals_same (bool a) y = refl
literals_same (long a) (long b) = refl
literals_same (long a) y = refl
literals_same (string a) (string b) = refl
literals_same (string a) y = refl
literals_same (entity a) (entity b) = refl
literals_same (entity a) y = refl

-- the outcome of an operand that is a literal
abbrev pub IsLiteral : Option Lit → Outcome → Type 0
IsLiteral None o = Unit {0}
IsLiteral (Some x) o = o ≡ Gives (literal_value x)

module _ (world : World) where
  action_outcome : (r : Env) → Fits r world.request world.slots → IsLiteral (action_literal r) (Gives (VEntity world.request.action))
  action_outcome (Declared d ps rs) h = ap (λ u. Gives (VEntity u)) h.0.action
  action_outcome Undeclared h = tt

  pub literal_outcome : (r : Env) → Fits r world.request world.slots → (e : Source) → IsLiteral (literal_of r e) (eval world e)
  literal_outcome r h (lit m x) = refl
  literal_outcome r h (var m Var.Action) = action_outcome r h
  literal_outcome r h (var m x) = tt
  literal_outcome r h e = tt

-- ---- the value of `==`

bool_has : (b : Bool) → HasFound (Some (bool_ty b)) (Gives (VBool b))
bool_has true = refl
bool_has false = refl

gives_is : (v w : Value) → ◌≡◌ {A = Outcome} (Gives v) (Gives w) → v ≡ w
gives_is v w e = cc

literals_have : (x y : Option Lit) (v w : Value) → IsLiteral x (Gives v) → IsLiteral y (Gives w)
    → HasFound (Some (compared_literals x y)) (Gives (VBool (same_value v w)))
literals_have None y v w h k = tt
literals_have (Some x) None v w h k = tt
literals_have (Some x) (Some y) v w h k =
    let values : same_value v w ≡ same_value (literal_value x) (literal_value y) =
    λ i. same_value (gives_is v (literal_value x) h i) (gives_is w (literal_value y) k i) in
    subst (λ z. HasFound (Some (bool_ty (lit_eq x y))) (Gives (VBool z))) (sym (values ∙ literals_same x y)) (bool_has (lit_eq x y))

module _ (s t : Option Ty) (x y : Option Lit) where
  values_have : (apart : Bool) (v w : Value) → are_apart s t ≡ apart → HasFound s (Gives v) → HasFound t (Gives w)
      → IsLiteral x (Gives v) → IsLiteral y (Gives w)
      → HasFound (Some (if apart then TBool False else compared_literals x y)) (Gives (VBool (same_value v w)))
  values_have true v w e h k p q =
      subst (λ z. HasFound (Some (TBool False)) (Gives (VBool z))) (sym (apart_found s t v w e h k)) refl
  values_have false v w e h k p q = literals_have x y v w p q

  equality_has : (world : World) (o o' : Outcome) → HasFound s o → HasFound t o' → IsLiteral x o → IsLiteral y o'
      → HasFound (Some (equality_type x y s t)) (on_value o (λ v. on_value o' (binary_outcome world.store world.functions BinaryOp.Eq v)))
  equality_has world (Gives v) (Gives w) h k p q = values_have (are_apart s t) v w refl h k p q
  equality_has world (Gives v) (Fails f) h k p q = tt
  equality_has world (Fails f) o' h k p q = tt

equality_safe : (world : World) (o o' : Outcome) → IsSafe o → IsSafe o'
    → IsSafe (on_value o (λ v. on_value o' (binary_outcome world.store world.functions BinaryOp.Eq v)))
equality_safe world (Gives v) (Gives w) h k = tt
equality_safe world (Gives v) (Fails f) h k = k
equality_safe world (Fails f) o' h k = h

-- ---- operators on the values of two operands

-- the value has a type that each value of the operator has
on_both_has : (operator : Value → Value → Outcome) (t : Ty) → ((v w : Value) → HasFound (Some t) (operator v w)) → (o o' : Outcome)
    → HasFound (Some t) (on_value o (λ v. on_value o' (operator v)))
on_both_has operator t f (Gives v) (Gives w) = f v w
on_both_has operator t f (Gives v) (Fails z) = tt
on_both_has operator t f (Fails z) o' = tt

-- the whole is safe if the operands are, and the operator is safe for values of their types
on_both_safe : (operator : Value → Value → Outcome) (s t : Ty) → ((v w : Value) → HasType s v → HasType t w → IsSafe (operator v w)) → (o o' : Outcome)
    → HasFound (Some s) o → HasFound (Some t) o' → IsSafe o → IsSafe o' → IsSafe (on_value o (λ v. on_value o' (operator v)))
on_both_safe operator s t f (Gives v) (Gives w) h k p q = f v w h k
on_both_safe operator s t f (Gives v) (Fails z) h k p q = q
on_both_safe operator s t f (Fails z) o' h k p q = p

-- a table without capabilities keeps its promise if the whole is safe for safe operands
module _ (world : World) (o o' whole : Outcome) (safe : IsSafe o → IsSafe o' → IsSafe whole) where
  type_gift : (u : Ty) → SoundGift world (o ∷ o' ∷ []) whole u no_caps
  type_gift u = record { safe = λ h. safe h.0 h.1.0; caps_hold_if_true = λ n. hold_none world; caps_hold_at_true = λ n. hold_none world }

  unless_gift : (fs : List Finding) (u : Ty) → GiftIsSound world (o ∷ o' ∷ []) whole (gives_unless fs u)
  unless_gift [] u = type_gift u
  unless_gift (f ∷ fs) u = tt

  if_gift : (any_bool : Bool) (fs : List Finding) (u : Ty) → GiftIsSound world (o ∷ o' ∷ []) whole (if any_bool then gives_unless fs u else gives u no_caps)
  if_gift true fs u = unless_gift fs u
  if_gift false fs u = type_gift u

-- ---- the form of `==`

module _ (world : World) (env : TypeEnv) (m : Written) (a b : Source) (o o' : Outcome) where
  abbrev equal : Outcome
  equal = on_value o (λ x. on_value o' (binary_outcome world.store world.functions BinaryOp.Eq x))

  abbrev found : Option Ty → Option Ty → Ty
  found s t = equality_type (literal_of env.request_env a) (literal_of env.request_env b) s t

  pub equality_sound : IsLiteral (literal_of env.request_env a) o → IsLiteral (literal_of env.request_env b) o'
      → SoundForm world (equality_form env m a b) (o ∷ o' ∷ []) equal
  equality_sound left right = record { typed = typed; succeeds = succeeds; failed = λ t h. h }
    where
      types_have : (ts : List (Option Ty)) → AllHave ts (o ∷ o' ∷ []) → HasFound (Some (found (first_type ts) (second_type ts))) equal
      types_have [] h = absurd h
      types_have (s ∷ []) h = absurd h.1
      types_have (s ∷ t ∷ ts) h =
          equality_has s t (literal_of env.request_env a) (literal_of env.request_env b) world o o' h.0 h.1.0 left right

      typed : (ts : List (Option Ty)) → AreTypes (equality_form env m a b) (o ∷ o' ∷ []) ts
          → HasFound (decided_type ((equality_form env m a b).decides ts)) equal
      typed ts h =
          let s = first_type ts in
          let t = second_type ts in
          subst (λ z. HasFound z equal) (sym (equality_given env m.place (found s t) s t)) (types_have ts h.have)

      succeeds : (ts : List (Option Ty)) → AreTypes (equality_form env m a b) (o ∷ o' ∷ []) ts → AllFound ts
          → GiftIsSound world (o ∷ o' ∷ []) equal ((equality_form env m a b).decides ts)
      succeeds ts h f =
          let s = first_type ts in
          let t = second_type ts in
          if_gift world o o' equal (equality_safe world o o') (is_any_bool (found s t)) (strict_errors env m.place Equality s t) (found s t)

-- ---- sets and their members: the operators

-- a value of a type that is accepted where a set has to be is a set
is_set : (s : Ty) (v : Value) → accepts set_types s ≡ true → HasType s v → HasType TAnySet v
is_set TNever v a h = absurd h
is_set (TSet t) (VSet vs) a h = tt
is_set (TSet t) v a h = absurd h
is_set TAnySet v a h = h
is_set s v a h = cc

contains_has : (v w : Value) → HasFound (Some (TBool AnyBool)) (contains v w)
contains_has (VSet vs) w = tt
contains_has v w = tt

contains_safe : (v w : Value) → HasType TAnySet v → IsSafe (contains v w)
contains_safe (VSet vs) w h = tt
contains_safe v w h = absurd h

-- an operator on two sets: it gives a boolean or fails, and is safe for two sets
abbrev IsOfSets : (Value → Value → Outcome) → Type 0
IsOfSets operator =
    (v w : Value) → HasFound (Some (TBool AnyBool)) (operator v w) × (HasType TAnySet v → HasType TAnySet w → IsSafe (operator v w))

contains_all_of_sets : IsOfSets contains_all
contains_all_of_sets (VSet vs) (VSet ws) = (tt, λ h k. tt)
contains_all_of_sets (VSet vs) w = (tt, λ h k. absurd k)
contains_all_of_sets v w = (tt, λ h k. absurd h)

contains_any_of_sets : IsOfSets contains_any
contains_any_of_sets (VSet vs) (VSet ws) = (tt, λ h k. tt)
contains_any_of_sets (VSet vs) w = (tt, λ h k. absurd k)
contains_any_of_sets v w = (tt, λ h k. absurd h)

-- ---- sets and their members: the forms

-- an operator that gives a boolean or fails, and is safe for a set and an expected right operand
record MembershipOperator (right : Expectation) (operator : Value → Value → Outcome) : Type 0 where
  has : (v w : Value) → HasFound (Some (TBool AnyBool)) (operator v w)
  safe : (t : Ty) → meets right t ≡ true → (v w : Value) → HasType TAnySet v → HasType t w → IsSafe (operator v w)

on_sets : (operator : Value → Value → Outcome) → IsOfSets operator → MembershipOperator (Some set_types) operator
on_sets operator sets = record { has = λ v w. (sets v w).0; safe = λ t n v w h k. (sets v w).1 h (is_set t w n k) }

-- the form of such an operator
module _ (m : Written) (right : Expectation) (errors : Option Ty → Option Ty → List Finding) (node : Mark → TypedTree → TypedTree → TypedTree) where
  abbrev membership_form : Form
  membership_form = on_two m (Some set_types) right (λ s t. gives_unless (errors s t) (TBool AnyBool)) node

  module _ (operator : Value → Value → Outcome) (keeps : MembershipOperator right operator) (world : World) (o o' : Outcome) where
    abbrev whole : Outcome
    whole = on_value o (λ x. on_value o' (operator x))

    membership_sound : SoundForm world membership_form (o ∷ o' ∷ []) whole
    membership_sound = record { typed = typed; succeeds = succeeds; failed = λ t h. h }
      where
        typed : (ts : List (Option Ty)) → AreTypes membership_form (o ∷ o' ∷ []) ts → HasFound (decided_type (membership_form.decides ts)) whole
        typed ts h =
            subst (λ z. HasFound z whole) (sym (given_type (errors (first_type ts) (second_type ts)) (TBool AnyBool)))
            (on_both_has operator (TBool AnyBool) keeps.has o o')

        succeeds : (ts : List (Option Ty)) → AreTypes membership_form (o ∷ o' ∷ []) ts → AllFound ts
            → GiftIsSound world (o ∷ o' ∷ []) whole (membership_form.decides ts)
        succeeds [] h f = absurd h.have
        succeeds (None ∷ ts) h f = absurd f.0
        succeeds (Some s ∷ []) h f = absurd h.have.1
        succeeds (Some s ∷ None ∷ ts) h f = absurd f.1.0
        succeeds (Some s ∷ Some t ∷ ts) h f =
            let values_safe : (v w : Value) → HasType s v → HasType t w → IsSafe (operator v w) =
            λ v w p q. keeps.safe t h.meet.1.0 v w (is_set s v h.meet.0 p) q in
            unless_gift world o o' whole (on_both_safe operator s t values_safe o o' h.have.0 h.have.1.0) (errors (Some s) (Some t)) (TBool AnyBool)

module _ (world : World) (env : TypeEnv) (m : Written) (o o' : Outcome) where
  abbrev outcome_by : BinaryOp → Outcome
  outcome_by operator = on_value o (λ x. on_value o' (binary_outcome world.store world.functions operator x))

  pub contains_sound : SoundForm world (contains_form env m) (o ∷ o' ∷ []) (outcome_by BinaryOp.Contains)
  contains_sound =
      membership_sound m None (λ s t. strict_errors env m.place Contains (member_type s) t) (λ k a b. binary k BinaryOp.Contains a b)
      contains (record { has = contains_has; safe = λ t n v w h k. contains_safe v w h }) world o o'

  pub contains_all_sound : SoundForm world (contains_several_form env m BinaryOp.ContainsAll) (o ∷ o' ∷ []) (outcome_by BinaryOp.ContainsAll)
  contains_all_sound =
      membership_sound m (Some set_types) (λ s t. strict_errors env m.place ContainsAnyAll s t) (λ k a b. binary k BinaryOp.ContainsAll a b)
      contains_all (on_sets contains_all contains_all_of_sets) world o o'

  pub contains_any_sound : SoundForm world (contains_several_form env m BinaryOp.ContainsAny) (o ∷ o' ∷ []) (outcome_by BinaryOp.ContainsAny)
  contains_any_sound =
      membership_sound m (Some set_types) (λ s t. strict_errors env m.place ContainsAnyAll s t) (λ k a b. binary k BinaryOp.ContainsAny a b)
      contains_any (on_sets contains_any contains_any_of_sets) world o o'
