use Rattle.std.proofs.Common.{◌≡◌, length}
use Rattle.cedar_typechecker.specs.SlotTypes.{slot_errors_to_come}
use Rattle.cedar_typechecker.proofs.rbac.slot_errors.SlotTypeErrors.next_error.Given as goal

abbrev pub decreases-loop-uid : goal.decreases-loop-uid
decreases-loop-uid l = length l.self.values

abbrev pub invariant-loop-uid : goal.invariant-loop-uid
invariant-loop-uid l =
    (slot_errors_to_come l.self ≡ slot_errors_to_come l.initial.self)
    × (l.self.ended ≡ l.initial.self.ended)
