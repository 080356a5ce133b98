-- The scope's test of the principal always has a Boolean type, and no part of it is too deep.
use Rattle.std.proofs.Common.{◌≡◌, ℕ, ◌+◌, Bool, true, false, ◌&&◌, if◌then◌else◌, List, [], ◌∷◌, Option, Some, None, refl, sym, ◌∙◌, ap, subst}
use Rattle.std.proofs.Common.{nat_lt}
use Rattle.cedar_types.specs.declared.base.expressions.operators.Var.{Var}
use Rattle.cedar_types.specs.declared.base.location.Loc.{Loc}
use Rattle.cedar_types.specs.declared.base.names.slots.SlotId.{SlotId}
use Rattle.cedar_types.specs.declared.base.types.BoolType.{BoolType}
use Rattle.cedar_types.specs.declared.base.types.BoolType.TheVariants.{AnyBool, False, True}
use Rattle.cedar_types.specs.Environments.{DeclaredEnv}
use Rattle.cedar_types.specs.Environments.RequestEnvs.{Declared}
use Rattle.cedar_types.specs.declared.base.errors.type_errors.LubContext.TheVariants.{Equality}
use Rattle.cedar_types.specs.Errors.{Finding}
use Rattle.cedar_types.specs.Expressions.Tree.{Lit, var}
use Rattle.cedar_types.specs.Expressions.View.{of_type, Written}
use Rattle.cedar_types.specs.Names.{Path, PlacedType}
use Rattle.cedar_types.specs.Templates.{Reference, to_entity, to_slot, Scope, any, equal, within, typed, typed_within}
use Rattle.cedar_types.specs.Templates.{made, reference_at, scope_at, typed_at, equal_at, within_at}
use Rattle.cedar_types.specs.Types.{Ty, TNever, TBool, TLong, TString, TSet, TAnySet, TRecord, TEntity, TAnyEntity, TExtension}
use Rattle.cedar_typing.specs.Capabilities.{Caps, no_caps, union}
use Rattle.cedar_typing.specs.Composition.{in_env}
use Rattle.cedar_typing.specs.Eager.{gives, gives_unless, first_type, second_type}
use Rattle.cedar_typing.specs.Judgments.{max_nesting}
use Rattle.cedar_typing.specs.Infer.{unless_too_deep, infer, infer_within}
use Rattle.cedar_typing.specs.Infer.Parts.{limit, Part, AnswerAndErrors}
use Rattle.cedar_typing.specs.Infer.Parts.{expect, after}
use Rattle.cedar_typing.specs.Infer.ShortCircuit.{infer_sides, infer_right}
use Rattle.cedar_typing.specs.Rules.Equality.{literal_of, compared_literals, are_apart, equality_type, equality_decides, equality_form}
use Rattle.cedar_typing.specs.Rules.Leaves.{bool_ty}
use Rattle.cedar_typing.specs.Rules.Membership.{may_be_among, types_of_entity, types_of_ancestors, in_form}
use Rattle.cedar_typing.specs.Rules.ShortCircuit.{conjunction, sides_type}
use Rattle.cedar_typing.specs.Rules.Unary.{is_decides, is_form}
use Rattle.cedar_typing.specs.Setting.{Setting}
use Rattle.cedar_typing.specs.TypeEnv.{TypeEnv}
use Rattle.cedar_typing.specs.TypeTests.{bool_types, is_any_bool, is_false, annotation_passes}
use Rattle.cedar_typing.specs.TypedExpr.{Source, annotation, at_place, place_of}
use Rattle.cedar_typing.specs.TypeTests.Joins.{strict_errors}
use Rattle.cedar_typing.proofs.Representatives.Decide.{right_ends}
use Rattle.cedar_typing.proofs.Views.Marks.{annotation-at_place}
use Rattle.cedar_typing.proofs.Representatives.Booleans.{IsBoolAnswer, bool_part, answer_bool, IsThere, leaf_there, IsBoolDecision, IsBoolForm, one_bool, two_bool}

-- ---- `==`, `in` and `is`

equality_bool : (env : TypeEnv) (m : Written) (a b : Source) → IsBoolForm (equality_form env m a b)
equality_bool env m a b = record {
  decided = λ ts. decided (first_type ts) (second_type ts);
  failed = λ k. (k, refl);
  marked = λ k xs. refl;
}
  where
    x : Option Lit
    x = literal_of env.request_env a

    y : Option Lit
    y = literal_of env.request_env b

    truth : (c : Bool) → (k : BoolType) × (bool_ty c ≡ TBool k)
    truth true = (True, refl)
    truth false = (False, refl)

    compared : (v w : Option Lit) → (k : BoolType) × (compared_literals v w ≡ TBool k)
    compared None w = (AnyBool, refl)
    compared (Some v) None = (AnyBool, refl)
    compared (Some v) (Some w) = truth _

    of_type_bool : (c : Bool) → (k : BoolType) × ((if c then TBool False else compared_literals x y) ≡ TBool k)
    of_type_bool true = (False, refl)
    of_type_bool false = compared x y

    unless : (fs : List Finding) (u : Ty) (k : BoolType) → u ≡ TBool k → IsBoolDecision (gives_unless fs u)
    unless [] u k e = (k, e)
    unless (f ∷ fs) u k e = (k, ap Some e)

    by_test : (c : Bool) (fs : List Finding) (u : Ty) (k : BoolType) → u ≡ TBool k
        → IsBoolDecision (if c then gives_unless fs u else gives u no_caps)
    by_test true fs u k e = unless fs u k e
    by_test false fs u k e = (k, e)

    decided : (s t : Option Ty) → IsBoolDecision (equality_decides env m.place (equality_type x y s t) s t)
    decided s t =
        let u = of_type_bool (are_apart s t) in
        by_test (is_any_bool (equality_type x y s t)) (strict_errors env m.place Equality s t) (equality_type x y s t) u.0 u.1

is_bool : (m : Written) (n : Path) → IsBoolForm (is_form m n)
is_bool m n = record { decided = λ ts. decided (first_type ts); failed = λ k. (k, refl); marked = λ k xs. refl }
  where
    sole_type : (c : Bool) → (k : BoolType) × ((if c then TBool True else TBool AnyBool) ≡ TBool k)
    sole_type true = (True, refl)
    sole_type false = (AnyBool, refl)

    one_of : (b c : Bool) → (k : BoolType) × ((if b then TBool False else if c then TBool True else TBool AnyBool) ≡ TBool k)
    one_of true c = (False, refl)
    one_of false c = sole_type c

    decided : (o : Option Ty) → IsBoolDecision (is_decides n o)
    decided None = (AnyBool, refl)
    decided (Some TNever) = (AnyBool, refl)
    decided (Some (TEntity ps)) = one_of _ _
    decided (Some (TBool k)) = (AnyBool, refl)
    decided (Some TLong) = (AnyBool, refl)
    decided (Some TString) = (AnyBool, refl)
    decided (Some (TSet t)) = (AnyBool, refl)
    decided (Some TAnySet) = (AnyBool, refl)
    decided (Some (TRecord xs o)) = (AnyBool, refl)
    decided (Some TAnyEntity) = (AnyBool, refl)
    decided (Some (TExtension x)) = (AnyBool, refl)

principal_in_bool : (env : TypeEnv) (m k : Written) (b : Source) → IsBoolForm (in_form env m (var k Var.Principal) b)
principal_in_bool env m k b = record {
  decided = λ ts. decided (may_be_among env.schema (types_of_entity (first_type ts)) (types_of_ancestors (second_type ts)));
  failed = λ k. (AnyBool, refl);
  marked = λ k xs. refl;
}
  where
    decided : (c : Bool) → IsBoolDecision (gives (if c then TBool AnyBool else TBool False) no_caps)
    decided true = (AnyBool, refl)
    decided false = (False, refl)

-- ---- `&&`

sides_bool : (j k : BoolType) → (i : BoolType) × (sides_type conjunction (TBool j) (TBool k) ≡ TBool i)
sides_bool AnyBool AnyBool = (AnyBool, refl)
sides_bool AnyBool False = (False, refl)
sides_bool AnyBool True = (AnyBool, refl)
sides_bool False AnyBool = (AnyBool, refl)
sides_bool False False = (False, refl)
sides_bool False True = (False, refl)
sides_bool True AnyBool = (AnyBool, refl)
sides_bool True False = (False, refl)
sides_bool True True = (True, refl)

module _ (env : TypeEnv) (m : Written) (l : Option Loc) (prior : Caps) (p : Part) (es : List Finding) (right : Caps → List Finding → AnswerAndErrors) where
  -- a left side that is not False leaves the value to the right one
  pub goes_on : annotation_passes is_false (annotation p.tree) ≡ false
      → infer_right env conjunction m l prior p es right
      ≡ after (expect env bool_types l (right (union prior p.capabilities) es)) (λ b es'. (infer_sides conjunction m p b (annotation p.tree) (annotation b.tree), es'))
  goes_on h = rw h refl

  -- the whole has a Boolean type, by the types of both sides
  pub both_sides : (q : Part) (j k : BoolType) → annotation p.tree ≡ Some (TBool j) → annotation q.tree ≡ Some (TBool k)
      → infer_sides conjunction m p q (annotation p.tree) (annotation q.tree)
      ≡ infer_sides conjunction m p q (Some (TBool j)) (Some (TBool k))
  both_sides q j k e f = λ i. infer_sides conjunction m p q (e i) (f i)

  right_bool : (j : BoolType) → annotation p.tree ≡ Some (TBool j) → annotation_passes is_false (annotation p.tree) ≡ false
      → ((known : Caps) (es' : List Finding) → IsBoolAnswer (right known es').0)
      → IsBoolAnswer (infer_right env conjunction m l prior p es right).0
  right_bool j e h there =
      let r = right (union prior p.capabilities) es in
      let q = bool_part env l r.0 r.1 (there (union prior p.capabilities) es) in
      let k = sides_bool j q.kind in
      let is : infer_right env conjunction m l prior p es right ≡ (infer_sides conjunction m p q.part (Some (TBool j)) (Some (TBool q.kind)), q.errors) =
      goes_on h
      ∙ ap (λ z. after z (λ b es'. (infer_sides conjunction m p b (annotation p.tree) (annotation b.tree), es'))) q.is
      ∙ ap (λ a. (a, q.errors)) (both_sides q.part j q.kind e q.kind_of) in
      subst (λ (z : AnswerAndErrors). IsBoolAnswer z.0) (sym is) (answer_bool (p.succeeded && q.part.succeeded) _ _ (k.0, ap Some k.1))

  sides_there : (j : BoolType) → annotation p.tree ≡ Some (TBool j)
      → ((known : Caps) (es' : List Finding) → IsBoolAnswer (right known es').0)
      → IsBoolAnswer (infer_right env conjunction m l prior p es right).0
  sides_there False e there =
      subst (λ (z : AnswerAndErrors). IsBoolAnswer z.0) (sym (right_ends env m l prior p es right (ap (annotation_passes is_false) e)))
      (answer_bool p.succeeded (at_place m.place p.tree) no_caps (False, annotation-at_place m.place p.tree ∙ e))
  sides_there AnyBool e there = right_bool AnyBool e (ap (annotation_passes is_false) e) there
  sides_there True e there = right_bool True e (ap (annotation_passes is_false) e) there

-- ---- the scope's test of the principal

module _ (s : Setting) (d : DeclaredEnv) (ps rs : Option Path) (l : Option Loc) where
  abbrev here : Setting
  here = in_env s (Declared d ps rs)

  abbrev named : Reference → Source
  named r = reference_at l SlotId.Principal r

  module _ (k : ℕ) (shallow : nat_lt max_nesting (k + 1) ≡ false) where
    within_limit : (es : List Finding) (o : AnswerAndErrors) → IsThere o.0 → IsThere (unless_too_deep (k + 1) es o).0
    within_limit es o h = subst (λ b. IsThere (if b then (limit, es) else o).0) (sym shallow) h

    variable : (prior : Caps) (es : List Finding) → IsThere (infer here (var (made l) Var.Principal) prior (k + 1) es).0
    variable prior es = within_limit es _ tt

    reference : (r : Reference) (prior : Caps) (es : List Finding) → IsThere (infer here (named r) prior (k + 1) es).0
    reference (to_entity u) prior es = within_limit es _ (leaf_there _ _ _)
    reference to_slot prior es = within_limit es _ tt

    is_in : (r : Reference) (prior : Caps) (es : List Finding) → IsBoolAnswer (infer_within here (within_at l Var.Principal (named r)) prior k es).0
    is_in r prior es =
        two_bool here.env _ (principal_in_bool here.env (made l) (made l) (named r)) l (place_of (named r))
        (λ es'. infer here (var (made l) Var.Principal) prior (k + 1) es') (λ es'. infer here (named r) prior (k + 1) es') es
        (λ es'. variable prior es') (λ es'. reference r prior es')

    is_equal : (r : Reference) (prior : Caps) (es : List Finding) → IsBoolAnswer (infer_within here (equal_at l Var.Principal (named r)) prior k es).0
    is_equal r prior es =
        two_bool here.env _ (equality_bool here.env (made l) (var (made l) Var.Principal) (named r)) l (place_of (named r))
        (λ es'. infer here (var (made l) Var.Principal) prior (k + 1) es') (λ es'. infer here (named r) prior (k + 1) es') es
        (λ es'. variable prior es') (λ es'. reference r prior es')

    is_typed : (t : PlacedType) (prior : Caps) (es : List Finding) → IsBoolAnswer (infer_within here (typed_at l Var.Principal t) prior k es).0
    is_typed t prior es =
        one_bool here.env _ (is_bool (record { place = l; names = of_type t.place }) t.name) l
        (λ es'. infer here (var (made l) Var.Principal) prior (k + 1) es') es (variable prior es)

  pub principal_bool : (c : Scope) (prior : Caps) (es : List Finding)
      → IsBoolAnswer (infer here (scope_at l Var.Principal SlotId.Principal c) prior 2 es).0
  principal_bool any prior es = (True, refl)
  principal_bool (equal r) prior es = is_equal 2 refl r prior es
  principal_bool (within r) prior es = is_in 2 refl r prior es
  principal_bool (typed t) prior es = is_typed 2 refl t prior es
  principal_bool (typed_within t r) prior es =
      let a = infer here (typed_at l Var.Principal t) prior 3 es in
      let p = bool_part here.env l a.0 a.1 (is_typed 3 refl t prior es) in
      let right : Caps → List Finding → AnswerAndErrors = λ known es'. infer here (within_at l Var.Principal (named r)) known 3 es' in
      subst (λ (z : AnswerAndErrors). IsBoolAnswer z.0)
      (sym (ap (λ z. after z (λ q es'. infer_right here.env conjunction (made l) l prior q es' right)) p.is))
      (sides_there here.env (made l) l prior p.part p.errors right p.kind p.kind_of (λ known es'. is_in 3 refl r known es'))
