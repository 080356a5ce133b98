use Rattle.std.proofs.Common.{◌≡◌, ◌-◌, ◌≤◌, ◌++◌}
use Rattle.std.specs.List.{filter, range_with_len}
use Rattle.cedar_editor.specs.Lines.{begins_line}
use Rattle.cedar_editor.proofs.lines.add_starts.Given as goal

-- the beginnings of lines so far are added
abbrev pub invariant-loop-start : goal.invariant-loop-start
invariant-loop-start l =
    (l.fn.from ≤ l.start)
    × (l.starts.items ≡ l.initial.starts.items ++ filter (begins_line l.bytes) (range_with_len l.fn.from (l.start - l.fn.from)))
