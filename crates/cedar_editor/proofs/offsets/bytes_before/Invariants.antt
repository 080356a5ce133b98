use Rattle.std.proofs.Common.{◌≡◌, ◌+◌, take}
use Rattle.cedar_editor.specs.Units.{units}
use Rattle.cedar_editor.proofs.offsets.bytes_before.Given as goal

-- the units that are left, and those of the bytes so far, are all units that were asked for
abbrev pub invariant-loop-at : goal.invariant-loop-at
invariant-loop-at l = l.left + units (take l.at l.bytes) ≡ l.fn.count
