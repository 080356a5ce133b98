-- The scope of a template is a boolean if its slots are bound.
use Rattle.std.proofs.Common.{◌≡◌, Bool, true, false, ◌&&◌, if◌then◌else◌, List, [], ◌∷◌, map, Option, Some, None, refl, ◌∙◌, ap, subst}
use Rattle.cedar_types.specs.declared.base.location.Loc.{Loc}
use Rattle.cedar_types.specs.declared.base.names.slots.SlotId.{SlotId}
use Rattle.cedar_types.specs.declared.base.expressions.operators.Var.{Var}
use Rattle.cedar_types.specs.Names.{PlacedType, PlacedUid, Uid, path_eq}
use Rattle.cedar_types.specs.Expressions.View.{trees_of}
use Rattle.cedar_types.specs.Templates.{to_entity, to_slot, Scope, any, equal, within, typed, typed_within, ActionScope, any_action}
use Rattle.cedar_types.specs.Templates.{equal_action, within_actions, typed_at, uid_at, scope_at, action_scope_at}
use Rattle.cedar_types.specs.Values.{Value, Values, VBool, VEntity, VSet, no_values, more_values}
use Rattle.cedar_typing.specs.Composition.{ScopeIsBoolean}
use Rattle.cedar_typing.specs.Evaluation.Conformance.{IsBound, SlotsBound}
use Rattle.cedar_typing.specs.Evaluation.Equality.{all_values, any_value}
use Rattle.cedar_typing.specs.Evaluation.Eval.{variable_value, bound_outcome, is_some_entity, is_in, is_in_entity, value_in, is_of, eval, eval_all}
use Rattle.cedar_typing.specs.Evaluation.Outcomes.{Says, test_of, of_test, and_test, on_value, GiveAll, more_outcomes, on_values}
use Rattle.cedar_typing.specs.Evaluation.World.{World, Outcome, Gives, Fails, TypeFailure}

abbrev IsBool : Outcome → Type 0
IsBool o = (b : Bool) × (o ≡ Gives (VBool b))

both_say : (b c : Bool) → of_test (and_test (Says b) (Says c)) ≡ Gives (VBool (b && c))
both_say true c = refl
both_say false c = refl

and_bool : (o p : Outcome) → IsBool o → IsBool p → IsBool (of_test (and_test (test_of o) (test_of p)))
and_bool o p (b, e) (c, f) = (b && c, (λ i. of_test (and_test (test_of (e i)) (test_of (f i)))) ∙ both_say b c)

-- a test of the entity that a slot is bound to is a boolean, if the slot is bound
bound_bool : (b : Option Uid) (f : Value → Outcome) → IsBound b → ((u : Uid) → IsBool (f (VEntity u)))
    → IsBool (on_value (bound_outcome b) f)
bound_bool None f h g = absurd h
bound_bool (Some u) f h g = g u

module _ (world : World) (l : Option Loc) where
  -- entities that are listed
  listed : (us : List PlacedUid) → (vs : Values) × (eval_all world (trees_of (map (uid_at l) us)) ≡ GiveAll vs)
      × (all_values is_some_entity vs ≡ true)
  listed [] = (no_values, refl, refl)
  listed (u ∷ us) =
      let r = listed us in
      (more_values (VEntity u.uid) r.0, ap (more_outcomes (Gives (VEntity u.uid))) r.1, r.2)

  action_bool : (a : ActionScope) → IsBool (eval world (action_scope_at l a))
  action_bool any_action = (true, refl)
  action_bool (equal_action u) = (_, refl)
  action_bool (within_actions us) =
      let r = listed us in
      let b = any_value (is_in_entity world.store world.request.action) r.0 in (
        b,
        ap (λ os. on_value (on_values os (λ vs. Gives (VSet vs))) (value_in world.store (VEntity world.request.action))) r.1
            ∙ ap (λ c. if c then Gives (VBool b) else Fails TypeFailure) r.2,
      )

-- the constraint of a variable that is an entity
module _ (world : World) (l : Option Loc) (v : Var) (x : SlotId) (own : Uid) (is : VEntity own ≡ variable_value world.request v) where
  in_bool : (u : Uid) → IsBool (value_in world.store (variable_value world.request v) (VEntity u))
  in_bool u = subst (λ w. IsBool (value_in world.store w (VEntity u))) is (is_in world.store own u, refl)

  typed_bool : (p : PlacedType) → IsBool (eval world (typed_at l v p))
  typed_bool p = subst (λ w. IsBool (is_of p.name w)) is (path_eq own.entity_type p.name, refl)

  scope_bool : (c : Scope) → SlotsBound world.slots (scope_at l v x c) → IsBool (eval world (scope_at l v x c))
  scope_bool any b = (true, refl)
  scope_bool (equal (to_entity u)) b = (_, refl)
  scope_bool (equal to_slot) b = bound_bool (world.slots x) _ b.1 (λ u. (_, refl))
  scope_bool (within (to_entity u)) b = in_bool u.uid
  scope_bool (within to_slot) b = bound_bool (world.slots x) (value_in world.store (variable_value world.request v)) b.1 in_bool
  scope_bool (typed p) b = typed_bool p
  scope_bool (typed_within p (to_entity u)) b = and_bool (eval world (typed_at l v p)) _ (typed_bool p) (in_bool u.uid)
  scope_bool (typed_within p to_slot) b =
      and_bool (eval world (typed_at l v p)) _ (typed_bool p)
      (bound_bool (world.slots x) (value_in world.store (variable_value world.request v)) b.1.1 in_bool)

pub scope_is_boolean : ScopeIsBoolean
scope_is_boolean t world b =
    and_bool _ _
    (and_bool _ _ (scope_bool world t.place Var.Principal SlotId.Principal world.request.principal refl t.principal b.0.0)
    (action_bool world t.place t.action))
    (scope_bool world t.place Var.Resource SlotId.Resource world.request.resource refl t.resource b.1)
