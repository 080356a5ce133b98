use Rattle.std.proofs.Common.{◌≡◌, ◌++◌, take, map, filter, nat_lt}
use Rattle.cedar_editor.specs.Lines.{moved_byte}
use Rattle.cedar_editor.proofs.lines.add_behind.Given as goal

-- those of the bytes so far that stand behind the change are added, at their places after it
abbrev pub invariant-loop-start : goal.invariant-loop-start
invariant-loop-start l =
    l.kept.items
    ≡ l.initial.kept.items ++ map (moved_byte l.old_end l.new_end) (filter (λ k. nat_lt l.old_end k) (take l.start-index l.starts))
