use Rattle.std.proofs.Common.{◌≡◌, ◌++◌}
use Rattle.cedar_typechecker.specs.Levels.Views.{findings}
use Rattle.cedar_typechecker.specs.Passes.{errors_left}
use Rattle.cedar_typechecker.proofs.validation.collect.Given as goal

-- the findings so far, and those that the pass has still to give
abbrev pub invariant-loop-error : goal.invariant-loop-error
invariant-loop-error l =
    findings l.found.items ++ errors_left l.error-iterator
    ≡ findings l.fn.found.items ++ errors_left l.fn.pass
