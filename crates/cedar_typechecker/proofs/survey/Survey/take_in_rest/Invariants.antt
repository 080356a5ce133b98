use Rattle.std.proofs.Common.{◌≡◌, ◌++◌, List, length}
use Rattle.cedar_types.specs.Environments.RequestEnvs.{Env}
use Rattle.cedar_types.specs.Templates.{PlainTemplate}
use Rattle.cedar_typing.specs.Soundness.Policies.{Basis}
use Rattle.cedar_typing.specs.Views.EnvironmentChecks.{checks_left, SameInput}
use Rattle.cedar_typechecker.specs.Surveyed.{AreChecksOn, TakesIn}
use Rattle.cedar_typechecker.proofs.survey.Survey.take_in_rest.Given as goal

-- the environments that are done were taken in, and with those that are left they are all
abbrev pub invariant-loop-env : goal.invariant-loop-env
invariant-loop-env g l =
    (l.self.policy_id ≡ l.fn.self.policy_id)
    × SameInput l.fn.checks l.checks
    × (done : List Env) × (done ++ checks_left l.checks ≡ checks_left l.fn.checks)
    × ((b : Basis) (t : PlainTemplate) → AreChecksOn g.C.ArgumentCheck.refusal l.fn.checks l.fn.schema b t
    → TakesIn b t l.fn.self l.self done)

abbrev pub decreases-loop-env : goal.decreases-loop-env
decreases-loop-env g l = length (checks_left l.checks)
