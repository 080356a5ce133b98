-- Policy tests: whether a policy is well-formed for the bindings of its slots.
use Rattle.std.specs.Prelude.{Bool, false, not, ◌&&◌, ◌||◌, Option, Some, None, option_map, if◌then◌else◌}
use Rattle.std.specs.BTreeMap.{BTreeMap}
use Rattle.std.specs.List.{list_any}
use Rattle.std.specs.Option.{is_some}
use Rattle.cedar_types.specs.declared.base.names.entities.EntityUID.{EntityUID}
use Rattle.cedar_types.specs.declared.base.names.slots.SlotId.{SlotId}
use Rattle.cedar_types.specs.Environments.Linking.{has_slot}
use Rattle.cedar_types.specs.Environments.RequestEnvs.{bound_to}
use Rattle.cedar_types.specs.Expressions.Parts.{subexpressions, mentions_slot}
use Rattle.cedar_types.specs.Names.{uid_of}
use Rattle.cedar_types.specs.Templates.{PlainTemplate}
use Rattle.cedar_conformance.specs.declared.policies.PolicyFault.{PolicyFault}
use Rattle.cedar_typing.specs.Evaluation.World.{Slots}
use Rattle.cedar_typing.specs.Silence.{is_unknown}
use Rattle.cedar_typing.specs.TypedExpr.{Source}

-- the entities to which the slots are bound
abbrev pub slots_of : BTreeMap SlotId EntityUID → Slots
slots_of m = λ s. option_map uid_of (bound_to s m.entries)

-- a part of the rest is an unknown
abbrev pub rest_has_unknown : Option Source → Bool
rest_has_unknown None = false
rest_has_unknown (Some e) = list_any is_unknown (subexpressions e)

abbrev pub mentions_any_slot : Source → Bool
mentions_any_slot e = mentions_slot SlotId.Principal e || mentions_slot SlotId.Resource e

-- the rest mentions a slot
abbrev pub rest_mentions_slot : Option Source → Bool
rest_mentions_slot None = false
rest_mentions_slot (Some e) = mentions_any_slot e

-- the slot does not occur, or is bound
abbrev pub slot_fits : SlotId → PlainTemplate → Slots → Bool
slot_fits s t b = not (has_slot s t) || is_some (b s)

abbrev pub slots_fit : PlainTemplate → Slots → Bool
slots_fit t b = slot_fits SlotId.Principal t b && slot_fits SlotId.Resource t b

-- the first slot that does not fit, that of the principal before that of the resource
abbrev pub unbound_slot : PlainTemplate → Slots → Option SlotId
unbound_slot t b =
    if not (slot_fits SlotId.Principal t b) then Some SlotId.Principal
    else if not (slot_fits SlotId.Resource t b) then Some SlotId.Resource
    else None

-- the first fault of a policy, in this order: an unknown in its conditions, a slot there, or a slot
-- that is not bound
abbrev pub policy_fault : PlainTemplate → Slots → Option PolicyFault
policy_fault t b =
    if rest_has_unknown t.rest then Some PolicyFault.Unknown
    else if rest_mentions_slot t.rest then Some PolicyFault.SlotOutsideScope
    else option_map PolicyFault.UnboundSlot (unbound_slot t b)

abbrev pub policy_fits : PlainTemplate → Slots → Bool
policy_fits t b =
    not (rest_has_unknown t.rest) && (not (rest_mentions_slot t.rest) && slots_fit t b)
