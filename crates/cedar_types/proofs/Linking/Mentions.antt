-- Slots that a template's scope mentions: those of the principal's and resource's constraints.
use Rattle.std.proofs.Common.{◌≡◌, refl, ◌∙◌, Bool, true, false, ◌||◌, List, [], ◌∷◌, Option, map}
use Rattle.cedar_types.specs.declared.base.location.Loc.{Loc}
use Rattle.cedar_types.specs.declared.base.names.slots.SlotId.{SlotId}
use Rattle.cedar_types.specs.declared.base.names.slots.SlotId.TheVariants.{Principal, Resource}
use Rattle.cedar_types.specs.declared.base.expressions.operators.Var.{Var}
use Rattle.cedar_types.specs.Environments.Linking.{is_slot, names_slot}
use Rattle.cedar_types.specs.Names.{PlacedUid}
use Rattle.cedar_types.specs.Expressions.Parts.{mentions_slot, any_mentions_slot}
use Rattle.cedar_types.specs.Templates.{Reference, to_entity, to_slot, Scope, any, equal, within, typed, typed_within, ActionScope}
use Rattle.cedar_types.specs.Templates.{any_action, equal_action, within_actions, PlainTemplate, reference_at, scope_at, uid_at}
use Rattle.cedar_types.specs.Templates.{action_scope_at, scope_condition}
use Rattle.cedar_types.specs.Expressions.TreeEq.{slot_eq}
use Rattle.cedar_types.specs.Expressions.View.{trees_of}

own_reference : (s : SlotId) (l : Option Loc) (r : Reference) → mentions_slot s (reference_at l s r) ≡ is_slot r
own_reference Principal l (to_entity u) = refl
own_reference Principal l to_slot = refl
own_reference Resource l (to_entity u) = refl
own_reference Resource l to_slot = refl

other_reference : (s other : SlotId) → slot_eq other s ≡ false → (l : Option Loc) (r : Reference)
    → mentions_slot s (reference_at l other r) ≡ false
other_reference s other n l (to_entity u) = refl
other_reference s other n l to_slot = n

pub own_scope : (s : SlotId) (l : Option Loc) (v : Var) (c : Scope) → mentions_slot s (scope_at l v s c) ≡ names_slot c
own_scope s l v any = refl
own_scope s l v (equal r) = own_reference s l r
own_scope s l v (within r) = own_reference s l r
own_scope s l v (typed t) = refl
own_scope s l v (typed_within t r) = own_reference s l r

pub other_scope : (s other : SlotId) → slot_eq other s ≡ false → (l : Option Loc) (v : Var) (c : Scope)
    → mentions_slot s (scope_at l v other c) ≡ false
other_scope s other n l v any = refl
other_scope s other n l v (equal r) = other_reference s other n l r
other_scope s other n l v (within r) = other_reference s other n l r
other_scope s other n l v (typed t) = refl
other_scope s other n l v (typed_within t r) = other_reference s other n l r

listed_actions : (s : SlotId) (l : Option Loc) (us : List PlacedUid) → any_mentions_slot s (trees_of (map (uid_at l) us)) ≡ false
listed_actions s l [] = refl
listed_actions s l (u ∷ us) = listed_actions s l us

pub action_scope : (s : SlotId) (l : Option Loc) (a : ActionScope) → mentions_slot s (action_scope_at l a) ≡ false
action_scope s l any_action = refl
action_scope s l (equal_action u) = refl
action_scope s l (within_actions us) = listed_actions s l us

first_alone : (b : Bool) → ((b || false) || false) ≡ b
first_alone true = refl
first_alone false = refl

pub principal_slot : (t : PlainTemplate) → mentions_slot Principal (scope_condition t) ≡ names_slot t.principal
principal_slot t =
    (λ i. (own_scope Principal t.place Var.Principal t.principal i || action_scope Principal t.place t.action i)
    || other_scope Principal Resource refl t.place Var.Resource t.resource i)
    ∙ first_alone (names_slot t.principal)

pub resource_slot : (t : PlainTemplate) → mentions_slot Resource (scope_condition t) ≡ names_slot t.resource
resource_slot t =
    (λ i. (other_scope Resource Principal refl t.place Var.Principal t.principal i || action_scope Resource t.place t.action i)
    || own_scope Resource t.place Var.Resource t.resource i)
