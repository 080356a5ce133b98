use Rattle.std.proofs.Common.{◌≡◌, ◌⊎◌, []}
use Rattle.std.proofs.Common.{false}
use Rattle.cedar_data.specs.Faults.{has_none}
use Rattle.cedar_data.proofs.checked_entities.add_unseen.Given as goal

-- no fault was looked at yet, or a fault is listed
abbrev pub invariant-loop-fault : goal.invariant-loop-fault
invariant-loop-fault l = (l.yielded ≡ []) ⊎ (has_none l.faults ≡ false)
