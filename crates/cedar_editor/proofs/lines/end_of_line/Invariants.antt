use Rattle.std.proofs.Common.{◌≤◌, length}
use Rattle.cedar_editor.proofs.lines.end_of_line.Given as goal

abbrev pub invariant-loop : goal.invariant-loop
invariant-loop l = l.end ≤ length l.bytes
