use Rattle.std.proofs.Common.{◌≡◌, ◌∷◌, ◌++◌, List, filter, length}
use Rattle.std.specs.List.{list_any}
use Rattle.cedar_types.specs.Environments.RequestEnvs.{Env, env_of}
use Rattle.cedar_types.specs.Templates.{PlainTemplate}
use Rattle.cedar_typing.specs.Soundness.Policies.{Basis}
use Rattle.cedar_typing.specs.Views.EnvironmentChecks.{checks_left, SameInput}
use Rattle.cedar_typechecker.specs.LeftOut.{is_kept_by}
use Rattle.cedar_typechecker.specs.Surveyed.{AreChecksOn, TakesIn, admitted_by, asks_of}
use Rattle.cedar_typechecker.proofs.survey.Survey.take_in_linked.Given as goal

-- those of the environments that are done were taken in that are not left out, and with those that are left they are all
abbrev pub invariant-loop-env : goal.invariant-loop-env
invariant-loop-env g l =
    (l.self.policy_id ≡ l.fn.self.policy_id)
    × SameInput l.fn.checks l.checks
    × (done : List Env) × (done ++ checks_left l.checks ≡ env_of l.fn.first ∷ checks_left l.fn.checks)
    × (l.asked ≡ list_any (asks_of l.fn.scope) done)
    × ((b : Basis) (t : PlainTemplate) → AreChecksOn g.C.ArgumentCheck.refusal l.fn.checks l.fn.scope.schema.now b t
    → TakesIn b t l.fn.self l.self (filter (is_kept_by (admitted_by l.fn.scope)) done))

abbrev pub decreases-loop-env : goal.decreases-loop-env
decreases-loop-env g l = length (checks_left l.checks)
