-- Templates as plain data, and their conditions.
use Rattle.std.specs.Prelude.{true, List, Option, Some, None, map, option_map}
use Rattle.cedar_types.specs.declared.base.expressions.Expr.{Expr}
use Rattle.cedar_types.specs.declared.base.location.Loc.{Loc}
use Rattle.cedar_types.specs.declared.base.names.policy_ids.PolicyID.{PolicyID}
use Rattle.cedar_types.specs.declared.base.names.slots.SlotId.{SlotId}
use Rattle.cedar_types.specs.declared.base.expressions.operators.Var.{Var}
use Rattle.cedar_types.specs.declared.base.expressions.operators.BinaryOp.TheVariants as BinaryOp
use Rattle.cedar_types.specs.declared.base.templates.constraints.EntityReference.{EntityReference}
use Rattle.cedar_types.specs.declared.base.templates.constraints.PrincipalOrResourceConstraint.{PrincipalOrResourceConstraint}
use Rattle.cedar_types.specs.declared.base.templates.constraints.PrincipalOrResourceConstraint.TheVariants as Constraint
use Rattle.cedar_types.specs.declared.base.templates.constraints.ActionConstraint.{ActionConstraint}
use Rattle.cedar_types.specs.declared.base.templates.constraints.PrincipalConstraint.{PrincipalConstraint}
use Rattle.cedar_types.specs.declared.base.templates.constraints.ResourceConstraint.{ResourceConstraint}
use Rattle.cedar_types.specs.declared.base.templates.Template.{Template}
use Rattle.cedar_types.specs.Names.{Text, PlacedType, PlacedUid, text_of, placed_type, placed_uid}
use Rattle.cedar_types.specs.Expressions.Tree.{bool, entity, Tree, lit, var, slot, and, binary, is_type, set_of}
use Rattle.cedar_types.specs.Expressions.View.{no_name, of_type, of_uid, Written, trees_of, written}
pub mod Mentions
pub mod MentionViews
pub mod Findings

-- the reference of a scope constraint: an entity, or the slot of its variable
pub data Reference : Type 0 where
  to_entity : PlacedUid → Reference
  to_slot : Reference

-- the scope of the principal or of the resource
pub data Scope : Type 0 where
  any : Scope
  equal : Reference → Scope
  within : Reference → Scope
  typed : PlacedType → Scope
  typed_within : PlacedType → Reference → Scope

-- the scope of the action
pub data ActionScope : Type 0 where
  any_action : ActionScope
  equal_action : PlacedUid → ActionScope
  within_actions : List PlacedUid → ActionScope

pub record PlainTemplate : Type 0 where
  pub id : Text
  pub place : Option Loc
  pub principal : Scope
  pub action : ActionScope
  pub resource : Scope
  pub rest : Option (Tree Written)

abbrev pub reference_of : EntityReference → Reference
reference_of (EntityReference.EUID u) = to_entity (placed_uid u)
reference_of EntityReference.Slot = to_slot

abbrev pub scope_of : PrincipalOrResourceConstraint → Scope
scope_of Constraint.Any = any
scope_of (Constraint.Eq r) = equal (reference_of r)
scope_of (Constraint.In r) = within (reference_of r)
scope_of (Constraint.Is t) = typed (placed_type t)
scope_of (Constraint.IsIn t r) = typed_within (placed_type t) (reference_of r)

abbrev pub action_scope_of : ActionConstraint → ActionScope
action_scope_of ActionConstraint.Any = any_action
action_scope_of (ActionConstraint.Eq u) = equal_action (placed_uid u)
action_scope_of (ActionConstraint.In us) = within_actions (map placed_uid us.items)

abbrev pub template_of : Template → PlainTemplate
template_of t = record {
  id = text_of t.id.text;
  place = t.loc;
  principal = scope_of t.principal_constraint.constraint;
  action = action_scope_of t.action_constraint;
  resource = scope_of t.resource_constraint.constraint;
  rest = option_map written t.non_scope_constraints;
}

-- the template of these parts
abbrev pub template_with : PolicyID → Option Loc → PrincipalConstraint → ActionConstraint
    → ResourceConstraint → Option (Expr (Unit {0})) → PlainTemplate
template_with id place principal action resource rest = record {
  id = text_of id.text;
  place = place;
  principal = scope_of principal.constraint;
  action = action_scope_of action;
  resource = scope_of resource.constraint;
  rest = option_map written rest;
}

-- a node made for the template stands at the template's place; names in it keep their own places
abbrev pub made : Option Loc → Written
made l = record { place = l; names = no_name }

abbrev pub true_at : Option Loc → Tree Written
true_at l = lit (made l) (bool true)

abbrev pub uid_at : Option Loc → PlacedUid → Tree Written
uid_at l u = lit (record { place = l; names = of_uid u.place u.type_place }) (entity u.uid)

abbrev pub reference_at : Option Loc → SlotId → Reference → Tree Written
reference_at l s (to_entity u) = uid_at l u
reference_at l s to_slot = slot (made l) s

-- `v is T`
abbrev pub typed_at : Option Loc → Var → PlacedType → Tree Written
typed_at l v t = is_type (record { place = l; names = of_type t.place }) (var (made l) v) t.name

-- `v in x`
abbrev pub within_at : Option Loc → Var → Tree Written → Tree Written
within_at l v x = binary (made l) BinaryOp.In (var (made l) v) x

-- `v == x`
abbrev pub equal_at : Option Loc → Var → Tree Written → Tree Written
equal_at l v x = binary (made l) BinaryOp.Eq (var (made l) v) x

-- the test of the principal or of the resource: `true`, `v == x`, `v in x`, `v is T`, `(v is T) &&
-- (v in x)`
abbrev pub scope_at : Option Loc → Var → SlotId → Scope → Tree Written
scope_at l v s any = true_at l
scope_at l v s (equal r) = equal_at l v (reference_at l s r)
scope_at l v s (within r) = within_at l v (reference_at l s r)
scope_at l v s (typed t) = typed_at l v t
scope_at l v s (typed_within t r) =
    and (made l) (typed_at l v t) (within_at l v (reference_at l s r))

-- the test of the action: `true`, `action == a`, `action in [a, b]`
abbrev pub action_scope_at : Option Loc → ActionScope → Tree Written
action_scope_at l any_action = true_at l
action_scope_at l (equal_action u) = equal_at l Var.Action (uid_at l u)
action_scope_at l (within_actions us) =
    within_at l Var.Action (set_of (made l) (trees_of (map (uid_at l) us)))

-- the scope: `(P && A) && R`
abbrev pub scope_condition : PlainTemplate → Tree Written
scope_condition t =
    let l = t.place in
    and (made l)
    (and (made l)
    (scope_at l Var.Principal SlotId.Principal t.principal) (action_scope_at l t.action))
    (scope_at l Var.Resource SlotId.Resource t.resource)

abbrev pub with_rest : Option Loc → Tree Written → Option (Tree Written) → Tree Written
with_rest l scope None = scope
with_rest l scope (Some rest) = and (made l) scope rest

-- the condition: the scope, and then the rest if there is one
abbrev pub condition_of : PlainTemplate → Tree Written
condition_of t = with_rest t.place (scope_condition t) t.rest
