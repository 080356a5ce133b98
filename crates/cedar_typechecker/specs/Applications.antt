-- The test whether the scope of a policy fits an action, and whether `in` in place of `==` might
-- help.
use Rattle.std.specs.Prelude.{◌≡◌, Bool, true, false, not, ◌&&◌, List, Option, Some, None, option_map, Result, Ok, Err}
use Rattle.std.specs.List.{list_any}
use Rattle.cedar_types.specs.declared.base.errors.validation_warnings.ValidationWarning.{ValidationWarning}
use Rattle.cedar_types.specs.declared.base.names.entities.EntityUID.{EntityUID}
use Rattle.cedar_types.specs.declared.base.names.slots.SlotId.{SlotId}
use Rattle.cedar_types.specs.Errors.{Warning, warning_of, invalid_action_application}
use Rattle.cedar_types.specs.Names.{Path, PlacedUid, placed_uid}
use Rattle.cedar_types.specs.Environments.RequestEnvs.{bound_to}
use Rattle.cedar_types.specs.Schemas.{Application, Schema, is_among, descendants_of}
use Rattle.cedar_types.specs.Templates.{Reference, to_entity, to_slot, Scope, any, equal, within, typed, typed_within, PlainTemplate}
use Rattle.cedar_typechecker.specs.declared.rbac.flags.Side.{Side}
use Rattle.cedar_typechecker.specs.declared.rbac.flags.Side.TheVariants.{Principal, Resource}
use Rattle.cedar_typechecker.specs.Scopes.{admitted_types, admitted_applications}

-- ---- a fitting action

-- an action fits if it applies to one of these principal types and to one of these resource types
abbrev pub fits : List Path → List Path → Application → Bool
fits ps rs a = list_any (is_among a.principals) ps && list_any (is_among a.resources) rs

-- whether an admitted and defined action has a principal type and a resource type that the
-- constraints admit
abbrev pub has_fitting_action : Schema → PlainTemplate → Bool
has_fitting_action s t =
    list_any (fits (admitted_types s t.principal) (admitted_types s t.resource))
    (admitted_applications s t.action)

-- ---- `in` in place of `==`

-- the types of principals, or of resources, to which an action applies
abbrev pub types_on : Side → Application → List Path
types_on Principal a = a.principals
types_on Resource a = a.resources

-- the type of the entity that the variable must equal, if the constraint is `==` an entity
abbrev pub equal_type : Scope → Option Path
equal_type (equal (to_entity u)) = Some u.uid.entity_type
equal_type (equal to_slot) = None
equal_type any = None
equal_type (within r) = None
equal_type (typed t) = None
equal_type (typed_within t r) = None

-- one action lists a type that is declared as a descendant, and none lists the type itself, because
-- then `==` is not the reason that no action fits
abbrev pub lists_only_below : Schema → Side → List Application → Path → Bool
lists_only_below s side apps p =
    not (list_any (λ a. is_among (types_on side a) p) apps)
    && list_any (λ a. list_any (is_among (descendants_of s.types p)) (types_on side a)) apps

-- whether `in` might help for the type, if there is one
abbrev pub might_help : Schema → Side → List Application → Option Path → Bool
might_help s side apps None = false
might_help s side apps (Some p) = lists_only_below s side apps p

-- whether `in` might help: the constraint is `==` an entity, and no admitted and defined action
-- lists the entity's type, but one lists a descendant of that type
abbrev pub in_might_help : Schema → Side → List Application → Scope → Bool
in_might_help s side apps c = might_help s side apps (equal_type c)

-- ---- the warning

-- the warning that no action fits, at the policy's place, with a flag for the principal and one for
-- the resource
abbrev pub application_warning : Schema → PlainTemplate → Warning
application_warning s t =
    let apps = admitted_applications s t.action in
    record {
      place = t.place;
      policy = t.id;
      slip = invalid_action_application
          (in_might_help s Principal apps t.principal)
          (in_might_help s Resource apps t.resource);
    }

-- the answer is Ok if an action fits, and the warning if none does
abbrev pub AnswersApplication : Schema → PlainTemplate → Result (Unit {0}) ValidationWarning
    → Type 0
AnswersApplication s t (Ok u) = has_fitting_action s t ≡ true
AnswersApplication s t (Err w) =
    (has_fitting_action s t ≡ false) × (warning_of w ≡ application_warning s t)

-- ---- the scope of a linked policy

-- the entity to which a slot is bound stands in the slot's place
abbrev pub bound_reference : Option PlacedUid → Reference → Reference
bound_reference o (to_entity u) = to_entity u
bound_reference (Some u) to_slot = to_entity u
bound_reference None to_slot = to_slot

abbrev pub bound_scope : Option PlacedUid → Scope → Scope
bound_scope o any = any
bound_scope o (equal r) = equal (bound_reference o r)
bound_scope o (within r) = within (bound_reference o r)
bound_scope o (typed t) = typed t
bound_scope o (typed_within t r) = typed_within t (bound_reference o r)

-- the template with the slots of its scope bound, as far as these bindings bind them
abbrev pub with_bound_scope : List (SlotId × EntityUID) → PlainTemplate → PlainTemplate
with_bound_scope es t = record t {
  principal = bound_scope (option_map placed_uid (bound_to SlotId.Principal es)) t.principal;
  resource = bound_scope (option_map placed_uid (bound_to SlotId.Resource es)) t.resource;
}
