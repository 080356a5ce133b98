use Rattle.std.proofs.Common.{◌≡◌, ◌+◌, ◌≤◌, drop}
use Rattle.cedar_editor.proofs.edits.shared_back.Given as goal

-- the last bytes so far are alike
abbrev pub invariant-loop-left : goal.invariant-loop-left
invariant-loop-left l = (l.left ≤ l.most) × (drop (l.first + l.left) l.one ≡ drop (l.second + l.left) l.two)

abbrev pub decreases-loop-left : goal.decreases-loop-left
decreases-loop-left l = l.left

abbrev pub invariant-loop-left-2 : goal.invariant-loop-left-2
invariant-loop-left-2 l = (l.left ≤ l.most) × (drop (l.first + l.left) l.one ≡ drop (l.second + l.left) l.two)

abbrev pub decreases-loop-left-2 : goal.decreases-loop-left-2
decreases-loop-left-2 l = l.left
