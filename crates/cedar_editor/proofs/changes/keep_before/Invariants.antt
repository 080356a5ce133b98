use Rattle.std.proofs.Common.{◌≡◌, ◌++◌, take, map}
use Rattle.cedar_editor.specs.Documents.{placed_policy}
use Rattle.cedar_editor.proofs.changes.keep_before.Given as goal

-- the policies so far are added
abbrev pub invariant-loop-placed : goal.invariant-loop-placed
invariant-loop-placed l =
    map placed_policy l.policies.items
    ≡ map placed_policy l.initial.policies.items ++ map placed_policy (take l.placed-index l.kept)
