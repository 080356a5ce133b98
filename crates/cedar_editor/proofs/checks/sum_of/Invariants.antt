use Rattle.std.proofs.Common.{◌≡◌, take}
use Rattle.cedar_editor.specs.Ids.{sum_of}
use Rattle.cedar_editor.proofs.checks.sum_of.Given as goal

-- the sum of the bytes so far
abbrev pub invariant-loop-byte : goal.invariant-loop-byte
invariant-loop-byte l = l.sum ≡ sum_of (take l.byte-index l.byte-items)
