use Rattle.std.proofs.Common.{◌≤◌, All, drop}
use Rattle.cedar_editor.specs.Documents.{BeginsBehind}
use Rattle.cedar_editor.proofs.changes.read_touched.Given as goal

-- the policies behind those that are read begin behind the change
abbrev pub invariant-loop : goal.invariant-loop
invariant-loop l = (l.last ≤ 18446744073709551615) × All (BeginsBehind l.place.end) (drop l.last l.old)
