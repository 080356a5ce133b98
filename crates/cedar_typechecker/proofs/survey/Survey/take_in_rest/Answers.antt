use Rattle.std.proofs.Common.{◌≡◌, ◌∷◌, ◌++◌, [], refl, ◌∙◌, subst}
use Rattle.cedar_types.specs.Environments.RequestEnvs.{env_of}
use Rattle.cedar_typing.specs.Views.EnvironmentChecks.{checks_left}
use Rattle.cedar_typechecker.specs.Surveyed.{TakesIn}
use Rattle.cedar_typechecker.proofs.Surveyed.Growth.{takes_none, takes_both, still_checks}
use Rattle.cedar_typechecker.proofs.Surveyed.Steps.{given_some, given_none, shorter, same_itself, same_still, one_done, all_done}
use Rattle.cedar_typechecker.proofs.survey.Survey.take_in_rest.Goals as goal

pub loop-env-init : goal.loop-env-init
loop-env-init g c = (refl, same_itself c.args.checks.now, [], refl, λ b t on. takes_none b t c.args.self.now)

pub loop-env-preserved : goal.loop-env-preserved
loop-env-preserved g c =
    let m = g.C.ArgumentCheck.refusal in
    let s = c.loop-env.checks in
    let t' = c.next_env.new.self in
    let inv = c.loop-env.invariant in
    let env = env_of c.in-Some.env in
    let step : checks_left s ≡ env ∷ checks_left t' = given_some c.in_ok-env.field-0 c.in-Some.env c.in-Some.is
    (checks_left s ≡ []) (λ e. checks_left s ≡ env_of e ∷ checks_left t') c.in_ok-env.ensures.next in
    let same = same_still c.args.checks.now s t' inv.1 c.in_ok-env.ensures.input in (
      c.in_ok-take_in_env.ensures.policy ∙ inv.0,
      same,
      inv.2 ++ env ∷ [],
      one_done inv.2 (checks_left s) (checks_left t') (checks_left c.args.checks.now) env step inv.3,
      λ b t on.
          takes_both b t c.args.self.now c.loop-env.self c.take_in_env.new.self inv.2 (env ∷ []) (inv.4 b t on)
          (c.in_ok-take_in_env.ensures.surveys b t (still_checks m c.args.checks.now t' c.args.schema.now b t same on)),
    )

pub loop-env-smaller : goal.loop-env-smaller
loop-env-smaller g c =
    let step = given_some c.in_ok-env.field-0 c.in-Some.env c.in-Some.is (checks_left c.loop-env.checks ≡ [])
    (λ e. checks_left c.loop-env.checks ≡ env_of e ∷ checks_left c.next_env.new.self) c.in_ok-env.ensures.next in
    shorter (checks_left c.loop-env.checks) (checks_left c.next_env.new.self) (env_of c.in-Some.env) step

pub returns-clause-surveys : goal.returns-clause-surveys
returns-clause-surveys g c b t on =
    let inv = c.loop-env.invariant in
    let over : checks_left c.loop-env.checks ≡ [] =
    given_none c.in_ok-env.field-0 c.in_default.not-Some (checks_left c.loop-env.checks ≡ [])
    (λ e. checks_left c.loop-env.checks ≡ env_of e ∷ checks_left c.next_env.new.self) c.in_ok-env.ensures.next in
    subst (TakesIn b t c.args.self.now c.loop-env.self) (all_done inv.2 (checks_left c.loop-env.checks) (checks_left c.args.checks.now) over inv.3)
    (inv.4 b t on)

pub returns-clause-policy : goal.returns-clause-policy
returns-clause-policy g c = c.loop-env.invariant.0
