use Rattle.std.proofs.Common.{◌≡◌, ◌∷◌, [], sym, ◌∙◌, subst}
use Rattle.cedar_types.specs.Environments.RequestEnvs.{env_of}
use Rattle.cedar_types.specs.Templates.{template_of}
use Rattle.cedar_typing.specs.Views.EnvironmentChecks.{checks_left}
use Rattle.cedar_typechecker.specs.Surveyed.{TakesIn}
use Rattle.cedar_typechecker.proofs.Surveyed.Decided.{decided_from}
use Rattle.cedar_typechecker.proofs.Surveyed.Growth.{takes_none}
use Rattle.cedar_typechecker.proofs.Surveyed.Steps.{given_some, given_none}
use Rattle.cedar_typechecker.proofs.survey.Survey.take_in_decided.Goals as goal

pub returns-in_default-clause-surveys : goal.returns-in_default-clause-surveys
returns-in_default-clause-surveys g c b on =
    let s = c.args.checks.now in
    let over : checks_left s ≡ [] =
    given_none c.in_ok-first.field-0 c.in_default.not-Some (checks_left s ≡ [])
    (λ e. checks_left s ≡ env_of e ∷ checks_left c.next_env.new.self) c.in_ok-first.ensures.next in
    subst (TakesIn b (template_of c.args.scope.template.now) c.args.self.now c.args.self.now) (sym over)
    (takes_none b (template_of c.args.scope.template.now) c.args.self.now)

pub returns-then-has_links-clause-surveys : goal.returns-then-has_links-clause-surveys
returns-then-has_links-clause-surveys g c b on =
    let m = g.C.ArgumentCheck.refusal in
    let s = c.args.checks.now in
    let t' = c.next_env.new.self in
    let env = env_of c.in-Some.first in
    let step : checks_left s ≡ env ∷ checks_left t' = given_some c.in_ok-first.field-0 c.in-Some.first c.in-Some.is
    (checks_left s ≡ []) (λ e. checks_left s ≡ env_of e ∷ checks_left t') c.in_ok-first.ensures.next in
    subst (TakesIn b (template_of c.args.scope.template.now) c.args.self.now c.take_in_linked.new.self) (sym step)
    (c.in_ok-take_in_linked.ensures.surveys b
    (decided_from m s t' c.args.scope b env c.in_ok-first.ensures.input step on))

pub returns-clause-surveys : goal.returns-clause-surveys
returns-clause-surveys g c b on =
    let m = g.C.ArgumentCheck.refusal in
    let s = c.args.checks.now in
    let t' = c.next_env.new.self in
    let env = env_of c.in-Some.first in
    let step : checks_left s ≡ env ∷ checks_left t' = given_some c.in_ok-first.field-0 c.in-Some.first c.in-Some.is
    (checks_left s ≡ []) (λ e. checks_left s ≡ env_of e ∷ checks_left t') c.in_ok-first.ensures.next in
    subst (TakesIn b (template_of c.args.scope.template.now) c.args.self.now c.take_in_unlinked.new.self) (sym step)
    (c.in_ok-take_in_unlinked.ensures.surveys b
    (decided_from m s t' c.args.scope b env c.in_ok-first.ensures.input step on)
    (sym c.has_links.ensures ∙ c.if-has_links.false))
