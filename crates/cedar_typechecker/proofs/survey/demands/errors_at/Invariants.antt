use Rattle.std.proofs.Common.{◌≡◌, ◌++◌}
use Rattle.cedar_types.specs.Names.{text_of}
use Rattle.cedar_typechecker.specs.Levels.Demands.{told}
use Rattle.cedar_typechecker.specs.Levels.Views.{demands_of, findings}
use Rattle.cedar_typechecker.proofs.survey.demands.errors_at.Given as goal

-- the errors so far, and those of the demands that are left, are those of all
abbrev pub invariant-loop-demand : goal.invariant-loop-demand
invariant-loop-demand l =
    findings l.found.items
    ++ told (text_of l.policy_id.text) l.maximum (demands_of l.demand-iterator)
    ≡ told (text_of l.policy_id.text) l.maximum (demands_of l.fn.demands.keys)
