use Rattle.std.proofs.Common.{◌≤◌, All, length, drop}
use Rattle.cedar_editor.specs.Documents.{BeginsBehind}
use Rattle.cedar_editor.proofs.changes.last_touched.Given as goal

-- the policies from this one on begin behind the byte
abbrev pub invariant-loop-last : goal.invariant-loop-last
invariant-loop-last l = (l.last ≤ length l.old) × All (BeginsBehind l.byte) (drop l.last l.old)

abbrev pub decreases-loop-last : goal.decreases-loop-last
decreases-loop-last l = l.last
