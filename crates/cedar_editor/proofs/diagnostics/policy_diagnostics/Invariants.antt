use Rattle.std.proofs.Common.{◌≡◌, map, take}
use Rattle.std.specs.List.{flat_map}
use Rattle.cedar_editor.specs.Diagnostics.{marks_of, marks_of_policy}
use Rattle.cedar_editor.proofs.diagnostics.policy_diagnostics.Given as goal

-- the policies so far are told
abbrev pub invariant-loop-placed : goal.invariant-loop-placed
invariant-loop-placed l = map marks_of l.told.items ≡ flat_map marks_of_policy (take l.placed-index l.policies)
