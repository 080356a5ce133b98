use Rattle.std.proofs.Common.{◌≡◌, ◌++◌, take, map}
use Rattle.cedar_editor.specs.Documents.{moved_policy, placed_policy}
use Rattle.cedar_editor.proofs.changes.keep_after.Given as goal

-- the policies so far are added, at their places after the change
abbrev pub invariant-loop-placed : goal.invariant-loop-placed
invariant-loop-placed l =
    map placed_policy l.policies.items
    ≡ map placed_policy l.initial.policies.items ++ map (moved_policy l.old_end l.new_end) (take l.placed-index l.kept)
