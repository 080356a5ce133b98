use Rattle.std.proofs.Common.{◌≡◌, ◌*◌, ◌≤◌, take}
use Rattle.cedar_editor.specs.Units.{units}
use Rattle.cedar_editor.proofs.offsets.units_of.Given as goal

-- the count is the number of units of the bytes so far, of which each has at most two
abbrev pub invariant-loop-byte : goal.invariant-loop-byte
invariant-loop-byte l = (l.count ≡ units (take l.byte-index l.bytes)) × (l.count ≤ 2 * l.byte-index)
