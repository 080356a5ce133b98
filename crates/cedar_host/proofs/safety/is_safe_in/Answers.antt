use Rattle.std.proofs.Common.{sym, ap, subst}
use Rattle.cedar_types.specs.Environments.RequestEnvs.{env_of}
use Rattle.cedar_types.specs.Templates.{template_of, condition_of}
use Rattle.cedar_typing.specs.Views.Checks.{verdict_of}
use Rattle.cedar_typing.specs.declared.typecheck.typechecker.PolicyCheck.{PolicyCheck}
use Rattle.cedar_typing.specs.PolicyCheck.{Verdict, PolicyChecks}
use Rattle.cedar_typing.specs.Soundness.Policies.{Basis, setting_on}
use Rattle.cedar_typing.specs.Soundness.PolicyCheck.{IsSoundPolicyCheck}
use Rattle.cedar_typing.specs.TypedExpr.{typed_tree}
use Rattle.cedar_host.specs.Safety.{sound_basis, is_success}
use Rattle.cedar_host.proofs.Promises.{asked_is_sound, success_is_safe}
use Rattle.cedar_host.proofs.safety.is_safe_in.Goals as goal

pub returns-in-Success-clause-safe : goal.returns-in-Success-clause-safe
returns-in-Success-clause-safe g c h =
    let mode = c.args.mode in
    let t = template_of c.args.policy.now in
    let env = env_of c.args.env.now in
    let b = sound_basis mode g.C.ArgumentCheck.refusal c.args.validator.now in
    let e = typed_tree c.in-Success._typed in
    let Sound : Basis → Verdict → Type 0 =
    λ b v. IsSoundPolicyCheck (setting_on b t.id env) (condition_of t) v in
    let verdict = verdict_of c.in_ok-check.check in
    let sound = subst (λ b. Sound b verdict) c.typechecker_in-typechecker.ensures c.in_ok-check.ensures.sound in
    success_is_safe b t (asked_is_sound mode) env e (subst (Sound b) (ap verdict_of c.in-Success.is) sound)

pub returns-in-Success-clause-exact : goal.returns-in-Success-clause-exact
returns-in-Success-clause-exact g c =
    let t = template_of c.args.policy.now in
    let env = env_of c.args.env.now in
    let check = c.in_ok-check.check in
    let Checks : Basis → Type 0 = λ b. PolicyChecks (setting_on b t.id env) (condition_of t) (verdict_of check) in (
      verdict_of check,
      subst Checks c.typechecker_in-typechecker.ensures c.in_ok-check.ensures.exact,
      sym (ap (λ (k : PolicyCheck). is_success (verdict_of k)) c.in-Success.is),
    )

pub returns-in-Irrelevant-clause-exact : goal.returns-in-Irrelevant-clause-exact
returns-in-Irrelevant-clause-exact g c =
    let t = template_of c.args.policy.now in
    let env = env_of c.args.env.now in
    let check = c.in_ok-check.check in
    let Checks : Basis → Type 0 = λ b. PolicyChecks (setting_on b t.id env) (condition_of t) (verdict_of check) in (
      verdict_of check,
      subst Checks c.typechecker_in-typechecker.ensures c.in_ok-check.ensures.exact,
      sym (ap (λ (k : PolicyCheck). is_success (verdict_of k)) c.in-Irrelevant.is),
    )

pub returns-in-Fail-clause-exact : goal.returns-in-Fail-clause-exact
returns-in-Fail-clause-exact g c =
    let t = template_of c.args.policy.now in
    let env = env_of c.args.env.now in
    let check = c.in_ok-check.check in
    let Checks : Basis → Type 0 = λ b. PolicyChecks (setting_on b t.id env) (condition_of t) (verdict_of check) in (
      verdict_of check,
      subst Checks c.typechecker_in-typechecker.ensures c.in_ok-check.ensures.exact,
      sym (ap (λ (k : PolicyCheck). is_success (verdict_of k)) c.in-Fail.is),
    )
