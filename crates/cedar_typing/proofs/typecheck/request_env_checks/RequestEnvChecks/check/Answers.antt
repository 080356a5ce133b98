use Rattle.std.proofs.Common.{sym, subst}
use Rattle.cedar_typing.specs.Views.Checks.{setting_for}
use Rattle.cedar_typing.specs.Views.EnvironmentChecks.{checker_of, template_in, condition_in}
use Rattle.cedar_typing.specs.PolicyCheck.{Verdict, PolicyChecks}
use Rattle.cedar_typing.specs.Setting.{Setting}
use Rattle.cedar_typing.proofs.Policies.Check.{checked}
use Rattle.cedar_typing.proofs.typecheck.request_env_checks.RequestEnvChecks.check.Goals as goal

pub returns : goal.returns
unfolding checker_of template_in condition_in
returns g c =
    let s = c.args.self.now in
    let x : Setting = setting_for g.C.ArgumentCheck.refusal s.checker.now s.template.now c.args.env.now in
    let P : Verdict → Type 0 = λ v. PolicyChecks x (condition_in s) v in
    subst P (sym c.in_ok-check.ensures) (checked x (condition_in s))
