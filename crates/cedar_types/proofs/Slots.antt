-- Bindings of slots: a slot is bound to the map's entry at the slot.
use Rattle.std.proofs.Common.{◌≡◌, refl, List, [], ◌∷◌, Option, Some}
use Rattle.std.specs.Prelude.{if◌then◌else◌}
use Rattle.std.specs.Ordering.{is_eq}
use Rattle.std.specs.BTreeMap.{is_at}
use Rattle.std.specs.Map.{lookup}
use Rattle.std.specs.declared.cmp.Ordering.{Ordering}
use Rattle.cedar_types.specs.contracts.base.names.slots.SlotIdOrd.TheImpl as slot_order
use Rattle.cedar_types.specs.declared.base.names.entities.EntityUID.{EntityUID}
use Rattle.cedar_types.specs.declared.base.names.slots.SlotId.{SlotId}
use Rattle.cedar_types.specs.Expressions.TreeEq.{slot_eq}
use Rattle.cedar_types.specs.Environments.RequestEnvs.{bound_to}

abbrev pub slot_cmp : SlotId → SlotId → Ordering
slot_cmp = slot_order.ghosts.cmp

ties : (s t : SlotId) → slot_eq s t ≡ is_eq (slot_cmp s t)
ties SlotId.Principal SlotId.Principal = refl
ties SlotId.Principal SlotId.Resource = refl
ties SlotId.Resource SlotId.Principal = refl
ties SlotId.Resource SlotId.Resource = refl

pub bound_is : (s : SlotId) (es : List (SlotId × EntityUID)) → bound_to s es ≡ lookup (is_at (slot_cmp s)) es
bound_is s [] = refl
bound_is s (e ∷ es) = λ i. if◌then◌else◌ {A = Option EntityUID} (ties s e.0 i) (Some e.1) (bound_is s es i)
