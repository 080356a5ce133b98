use Rattle.std.proofs.Common.{◌≡◌, length}
use Rattle.std.specs.List.{list_any}
use Rattle.cedar_typing.specs.Views.EnvironmentChecks.{checks_left}
use Rattle.cedar_typechecker.specs.Surveyed.{asks_of}
use Rattle.cedar_typechecker.proofs.survey.left_out.DecidedScope.asks_in_some.Given as goal

-- those that are left decide
abbrev pub invariant-loop-env : goal.invariant-loop-env
invariant-loop-env g l =
    list_any (asks_of l.self) (checks_left l.checks) ≡ list_any (asks_of l.fn.self) (checks_left l.fn.checks)

abbrev pub decreases-loop-env : goal.decreases-loop-env
decreases-loop-env g l = length (checks_left l.checks)
