-- The first fault of a policy: there is none iff the policy fits.
use Rattle.std.proofs.Common.{◌≡◌, refl, Bool, true, false, not, ◌&&◌, Some, None, option_map, if◌then◌else◌}
use Rattle.cedar_types.specs.declared.base.names.slots.SlotId.{SlotId}
use Rattle.cedar_types.specs.Templates.{PlainTemplate}
use Rattle.cedar_typing.specs.Evaluation.World.{Slots}
use Rattle.cedar_conformance.specs.declared.policies.PolicyFault.{PolicyFault}
use Rattle.cedar_conformance.specs.Answers.{finds_none}
use Rattle.cedar_conformance.specs.PolicyTests.{rest_has_unknown, rest_mentions_slot, slot_fits, policy_fault, policy_fits}

of_slots : (p r : Bool)
    → finds_none
    (option_map PolicyFault.UnboundSlot
    (if not p then Some SlotId.Principal else if not r then Some SlotId.Resource else None)) ≡ (p && r)
of_slots true true = refl
of_slots true false = refl
of_slots false r = refl

of_all : (u s p r : Bool)
    → finds_none
    (if u then Some PolicyFault.Unknown
    else if s then Some PolicyFault.SlotOutsideScope
    else option_map PolicyFault.UnboundSlot
    (if not p then Some SlotId.Principal else if not r then Some SlotId.Resource else None))
    ≡ (not u && (not s && (p && r)))
of_all true s p r = refl
of_all false true p r = refl
of_all false false p r = of_slots p r

pub none_where_fits : (t : PlainTemplate) (b : Slots) → finds_none (policy_fault t b) ≡ policy_fits t b
none_where_fits t b =
    of_all (rest_has_unknown t.rest) (rest_mentions_slot t.rest) (slot_fits SlotId.Principal t b)
    (slot_fits SlotId.Resource t b)
