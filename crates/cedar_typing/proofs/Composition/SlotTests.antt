-- The tests of a variable against its slot, where the slot is linked to the variable's own type.
use Rattle.std.proofs.Common.{◌≡◌, ℕ, ◌+◌, ◌≤◌, Bool, true, false, if◌then◌else◌, [], ◌∷◌, Option, Some, None, refl, ◌∙◌, ap, arith}
use Rattle.std.proofs.lemmas.Grind.{common_steps}
use Rattle.cedar_types.specs.declared.base.errors.type_errors.LubContext.TheVariants.{Equality}
use Rattle.cedar_types.specs.declared.base.expressions.operators.BinaryOp.{BinaryOp}
use Rattle.cedar_types.specs.declared.base.expressions.operators.Var.{Var}
use Rattle.cedar_types.specs.declared.base.location.Loc.{Loc}
use Rattle.cedar_types.specs.declared.base.names.slots.SlotId.{SlotId}
use Rattle.cedar_types.specs.declared.base.types.BoolType.TheVariants.{AnyBool}
use Rattle.cedar_types.specs.Lemmas.Comparisons.{path_same}
use Rattle.cedar_types.specs.Names.{Path}
use Rattle.cedar_types.specs.Types.{Ty, TBool, TEntity}
use Rattle.cedar_types.specs.Expressions.Tree.{var, slot, binary}
use Rattle.cedar_types.specs.Expressions.View.{Written}
use Rattle.cedar_types.specs.Environments.RequestEnvs.{Declared}
use Rattle.cedar_typing.specs.Capabilities.{Caps, no_caps}
use Rattle.cedar_typing.specs.Composition.{in_env, IsTypedBool, OwnTestsAreBool}
use Rattle.cedar_typing.specs.Eager.{gives, gives_unless}
use Rattle.cedar_typing.specs.TypeTests.Joins.{join_errors, strict_errors}
use Rattle.cedar_typing.specs.Judgments.{max_nesting}
use Rattle.cedar_typing.specs.Rules.Eager.{none_derived, also_derived, eager_typed}
use Rattle.cedar_typing.specs.Rules.Equality.{equality_type, equality_decides, literal_of}
use Rattle.cedar_typing.specs.Rules.Leaves.{leaf, variable_type, slot_ty}
use Rattle.cedar_typing.specs.Rules.Membership.{entity_decides, in_decides, literal_entity}
use Rattle.cedar_typing.specs.Rules.{Derives, rules_within}
use Rattle.cedar_typing.specs.Setting.{Setting}
use Rattle.cedar_typing.specs.TypeEnv.{TypeEnv}
use Rattle.cedar_typing.specs.TypedExpr.{TypedTree}

-- ---- the tables

either_same : {A : Type 0} (b : Bool) (x y : A) → x ≡ y → (if b then x else y) ≡ y
either_same true x y e = e
either_same false x y e = refl

module _ (env : TypeEnv) (own : Path) where
  abbrev Own : Option Ty
  Own = Some (TEntity (own ∷ []))

  -- equal types have a bound
  bounded : (l : Option Loc) → join_errors env l Equality Own Own ≡ []
  bounded l = rw (path_same.itself own) refl

  no_errors : (l : Option Loc) → strict_errors env l Equality Own Own ≡ []
  no_errors l = either_same _ (join_errors env l Equality Own Own) [] (bounded l)

  not_apart : equality_type None None Own Own ≡ TBool AnyBool
  not_apart = rw (path_same.itself own) refl

  equal_decides : (l : Option Loc) → equality_decides env l (equality_type None None Own Own) Own Own ≡ gives (TBool AnyBool) no_caps
  equal_decides l = ap (λ u. equality_decides env l u Own Own) not_apart ∙ ap (λ es. gives_unless es (TBool AnyBool)) (no_errors l)

  entity_in_decides : entity_decides env Own Own ≡ gives (TBool AnyBool) no_caps
  entity_in_decides = rw (path_same.itself own) refl

-- ---- the tests

shallower : (k : ℕ) → k + 1 ≤ max_nesting → k ≤ max_nesting
shallower k h = grind (arith, common_steps)

-- the test of a variable that is no literal against its slot, if both have the own type
module _ (t : Setting) (own : Path) (v : Var) (x : SlotId) (of_variable : variable_type t.env v ≡ Some (TEntity (own ∷ [])))
    (of_slot : Some (slot_ty t.env.request_env x) ≡ Some (TEntity (own ∷ []))) (m n o : Written)
    (no_literal : literal_of t.env.request_env (var n v) ≡ None) where
  -- a test of the two that the rules find Bool within the limit is typed as Bool
  found_bool : (op : BinaryOp) (prior : Caps) (k : ℕ) (y : TypedTree) → k + 1 ≤ max_nesting
      → (rules_within t (binary m op (var n v) (slot o x)) prior k).derives (TBool AnyBool) no_caps y
      → (y : TypedTree) × Derives t (binary m op (var n v) (slot o x)) prior k (TBool AnyBool) no_caps y
  found_bool op prior k y h r = (y, (shallower k h, r))

  equal_typed : IsTypedBool t (binary m BinaryOp.Eq (var n v) (slot o x))
  equal_typed prior k h =
      found_bool BinaryOp.Eq prior k _ h
      (eager_typed (also_derived (h, leaf of_variable) refl (also_derived (h, leaf of_slot) refl none_derived))
      (ap (λ q. equality_decides t.env m.place (equality_type q None (Own t.env own) (Own t.env own)) (Own t.env own) (Own t.env own)) no_literal
      ∙ equal_decides t.env own m.place))

  in_typed : IsTypedBool t (binary m BinaryOp.In (var n v) (slot o x))
  in_typed prior k h =
      found_bool BinaryOp.In prior k _ h
      (eager_typed (also_derived (h, leaf of_variable) refl (also_derived (h, leaf of_slot) refl none_derived))
      (ap (λ q. in_decides t.env (literal_entity q) None (Own t.env own) (Own t.env own)) no_literal ∙ entity_in_decides t.env own))

pub own_tests_are_bool : OwnTestsAreBool
own_tests_are_bool s d link =
    let p = in_env s (Declared d (Some d.principal) link) in
    let r = in_env s (Declared d link (Some d.resource)) in (
      λ m n o. (
        equal_typed p d.principal Var.Principal SlotId.Principal refl refl m n o refl,
        in_typed p d.principal Var.Principal SlotId.Principal refl refl m n o refl,
      ),
      λ m n o. (
        equal_typed r d.resource Var.Resource SlotId.Resource refl refl m n o refl,
        in_typed r d.resource Var.Resource SlotId.Resource refl refl m n o refl,
      ),
    )
