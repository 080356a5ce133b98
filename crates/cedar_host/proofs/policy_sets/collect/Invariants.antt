use Rattle.std.proofs.Common.{◌≡◌, ◌++◌}
use Rattle.cedar_typechecker.specs.Levels.Views.{findings}
use Rattle.cedar_typechecker.specs.Passes.{errors_left}
use Rattle.cedar_host.proofs.policy_sets.collect.Given as goal

-- the errors that were found, and those that are left of the pass
abbrev pub invariant-loop-error : goal.invariant-loop-error
invariant-loop-error l =
    findings l.found.items ++ errors_left l.error-iterator
    ≡ findings l.fn.found.items ++ errors_left l.fn.pass
