use Rattle.std.proofs.Common.{◌≡◌, take}
use Rattle.cedar_writing.specs.Pieces.{Lines, lines_so_far}
use Rattle.cedar_writing.proofs.lines.one_a_line.Given as goal

-- the lines of the bytes so far
abbrev pub invariant-loop-byte : goal.invariant-loop-byte
invariant-loop-byte l =
    ◌≡◌ {A = Lines} (l.begun, l.lines.items) (lines_so_far (take l.byte-index l.byte-items))
