use Rattle.std.proofs.Common.{◌-◌, ◌<◌, ◌≤◌, length, get_or}
use Rattle.cedar_editor.specs.Lines.{start_in}
use Rattle.cedar_editor.proofs.lines.Lines.line_of.Given as goal

-- the line begins at the byte or before it, and the lines behind the last one begin behind the byte
abbrev pub invariant-loop-line : goal.invariant-loop-line
invariant-loop-line l = record {
  ordered : l.line ≤ l.last;
  declared : l.last ≤ length l.starts;
  begun : start_in l.starts l.line ≤ l.byte;
  over : l.last < length l.starts → l.byte < get_or l.starts l.last 0;
}

abbrev pub decreases-loop-line : goal.decreases-loop-line
decreases-loop-line l = l.last - l.line
