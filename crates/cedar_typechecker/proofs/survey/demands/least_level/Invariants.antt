use Rattle.std.proofs.Common.{◌≡◌, Some}
use Rattle.cedar_typechecker.specs.Levels.Views.{demands_of}
use Rattle.cedar_typechecker.specs.Surveys.{raise_all}
use Rattle.cedar_typechecker.proofs.survey.demands.least_level.Given as goal

-- the demands that are left raise the level so far to the one that all need
abbrev pub invariant-loop-demand : goal.invariant-loop-demand
invariant-loop-demand l =
    raise_all (demands_of l.demand-iterator) l.least
    ≡ raise_all (demands_of l.fn.demands.keys) (Some 0)
