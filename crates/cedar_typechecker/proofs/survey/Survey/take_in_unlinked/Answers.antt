use Rattle.std.proofs.Common.{◌∷◌, inl, refl, ◌∙◌}
use Rattle.cedar_types.specs.Environments.RequestEnvs.{env_of}
use Rattle.cedar_types.specs.Templates.{template_of}
use Rattle.cedar_typing.specs.Views.EnvironmentChecks.{checks_left}
use Rattle.cedar_typechecker.proofs.Surveyed.Decided.{takes_left_of_all, takes_declared}
use Rattle.cedar_typechecker.proofs.Surveyed.Quiet.{IsSameBeside}
use Rattle.cedar_typechecker.proofs.survey.Survey.take_in_unlinked.Goals as goal

pub returns-clause-surveys : goal.returns-clause-surveys
returns-clause-surveys g c b on free =
    let m = g.C.ArgumentCheck.refusal in
    let d = c.args.scope in
    let t = template_of d.template.now in
    let first = env_of c.args.first.now in
    let left = first ∷ checks_left c.args.checks.now in
    let one = c.take_in_actions.new.self in
    let two = c.take_in_undeclared.new.self in
    let new = c.take_in_left_out.new.self in
    let e = c.in_ok-take_in_left_out.ensures in
    let same : IsSameBeside two new = record {
      errors = e.errors;
      passes = e.passes;
      impossible = e.impossible;
      silent = e.silent;
      applicable = e.applicable;
    } in
    takes_declared m c.args.checks.now d b left on first (inl refl) free c.in_ok-take_in_actions.ensures.once
    c.args.self.now one two new (c.in_ok-take_in_actions.ensures.surveys b t on.are_on)
    (c.in_ok-take_in_undeclared.ensures.surveys b t on.are_on)
    (takes_left_of_all m c.args.checks.now d b left on two new same _ e.demands refl)

pub returns-clause-policy : goal.returns-clause-policy
returns-clause-policy g c =
    c.in_ok-take_in_left_out.ensures.policy ∙ c.in_ok-take_in_undeclared.ensures.policy
    ∙ c.in_ok-take_in_actions.ensures.policy
