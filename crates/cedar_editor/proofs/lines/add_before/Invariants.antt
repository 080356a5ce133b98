use Rattle.std.proofs.Common.{◌≡◌, ◌++◌, take, filter, nat_lt}
use Rattle.cedar_editor.proofs.lines.add_before.Given as goal

-- those of the bytes so far that stand before the byte are added
abbrev pub invariant-loop-start : goal.invariant-loop-start
invariant-loop-start l =
    l.kept.items ≡ l.initial.kept.items ++ filter (λ k. nat_lt k l.byte) (take l.start-index l.starts)
