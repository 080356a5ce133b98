use Rattle.std.proofs.Common.{◌≡◌, ◌++◌, List}
use Rattle.std.specs.Prelude.{IsPermutation}
use Rattle.cedar_types.specs.Environments.Linking.{checked_envs}
use Rattle.cedar_types.specs.Environments.RequestEnvs.{Env}
use Rattle.cedar_types.specs.Schemas.Contents.{schema_of}
use Rattle.cedar_types.specs.Templates.{template_of, condition_of}
use Rattle.cedar_typing.specs.Views.Checks.{schema_by, mode_by}
use Rattle.cedar_typing.specs.Views.EnvironmentChecks.{ChecksIn, checker_of, template_in, condition_in, checks_left}
use Rattle.cedar_typing.specs.PolicyCheck.{Verdict}
use Rattle.cedar_typing.specs.PolicyCheck.Outcome.{VerdictsOf}
use Rattle.cedar_typing.specs.Views.Policies.{IsTally}
use Rattle.cedar_typing.proofs.typecheck.typechecker.Typechecker.tally.Given as goal

-- the tally has the verdicts of some environments, which are all with those that are left
abbrev pub invariant-loop-item : goal.invariant-loop-item
invariant-loop-item g l =
    let all : List Env = checked_envs (schema_of (schema_by l.fn.self).now) (mode_by l.fn.self) (template_of l.fn.t) in
    (checker_of l.item-iterator ≡ l.fn.self)
    × (template_in l.item-iterator ≡ l.fn.t)
    × (condition_in l.item-iterator ≡ condition_of (template_of l.fn.t))
    × (done : List Env) × (vs : List Verdict)
    × IsPermutation (done ++ checks_left l.item-iterator) all
    × VerdictsOf (ChecksIn g.C.ArgumentCheck.refusal l.fn.self l.fn.t) done vs
    × IsTally l.tally vs
