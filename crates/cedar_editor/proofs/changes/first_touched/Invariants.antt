use Rattle.std.proofs.Common.{◌-◌, ◌≤◌, All, length, take}
use Rattle.cedar_editor.specs.Documents.{EndsBy}
use Rattle.cedar_editor.proofs.changes.first_touched.Given as goal

-- the policies before this one end before the byte
abbrev pub invariant-loop-first : goal.invariant-loop-first
invariant-loop-first l = (l.first ≤ length l.old) × All (EndsBy l.byte) (take l.first l.old)

abbrev pub decreases-loop-first : goal.decreases-loop-first
decreases-loop-first l = length l.old - l.first

abbrev pub invariant-loop-first-2 : goal.invariant-loop-first-2
invariant-loop-first-2 l = (l.first ≤ length l.old) × All (EndsBy l.byte) (take l.first l.old)

abbrev pub decreases-loop-first-2 : goal.decreases-loop-first-2
decreases-loop-first-2 l = l.first
