use Rattle.std.proofs.Common.{◌≡◌, ◌∷◌, ◌||◌, [], sym, ◌∙◌, ap}
use Rattle.std.specs.List.{list_any}
use Rattle.cedar_types.specs.Environments.RequestEnvs.{env_of}
use Rattle.cedar_typing.specs.Views.EnvironmentChecks.{checks_left}
use Rattle.cedar_typechecker.specs.Surveyed.{asks_of}
use Rattle.cedar_typechecker.proofs.Surveyed.Steps.{given_some, given_none, shorter}
use Rattle.cedar_typechecker.proofs.survey.left_out.DecidedScope.asks_in_some.Goals as goal

pub loop-env-preserved : goal.loop-env-preserved
loop-env-preserved g c =
    let a = asks_of c.args.self.now in
    let s = c.loop-env.checks in
    let t = c.next_env.new.self in
    let env = env_of c.in-Some.env in
    let step : checks_left s ≡ env ∷ checks_left t = given_some c.in_ok-env.field-0 c.in-Some.env c.in-Some.is
    (checks_left s ≡ []) (λ e. checks_left s ≡ env_of e ∷ checks_left t) c.in_ok-env.ensures.next in
    let not_asked = sym c.asks.ensures ∙ c.if-asks.false in
    ap (λ b. b || list_any a (checks_left t)) (sym not_asked) ∙ ap (list_any a) (sym step) ∙ c.loop-env.invariant

pub loop-env-smaller : goal.loop-env-smaller
loop-env-smaller g c =
    let step = given_some c.in_ok-env.field-0 c.in-Some.env c.in-Some.is (checks_left c.loop-env.checks ≡ [])
    (λ e. checks_left c.loop-env.checks ≡ env_of e ∷ checks_left c.next_env.new.self) c.in_ok-env.ensures.next in
    shorter (checks_left c.loop-env.checks) (checks_left c.next_env.new.self) (env_of c.in-Some.env) step

pub returns-then-asks : goal.returns-then-asks
returns-then-asks g c =
    let a = asks_of c.args.self.now in
    let s = c.loop-env.checks in
    let t = c.next_env.new.self in
    let env = env_of c.in-Some.env in
    let step : checks_left s ≡ env ∷ checks_left t = given_some c.in_ok-env.field-0 c.in-Some.env c.in-Some.is
    (checks_left s ≡ []) (λ e. checks_left s ≡ env_of e ∷ checks_left t) c.in_ok-env.ensures.next in
    let is_asked = sym c.asks.ensures ∙ c.if-asks.true in
    ap (λ b. b || list_any a (checks_left t)) (sym is_asked) ∙ ap (list_any a) (sym step) ∙ c.loop-env.invariant

pub returns : goal.returns
returns g c =
    let a = asks_of c.args.self.now in
    let over : checks_left c.loop-env.checks ≡ [] =
    given_none c.in_ok-env.field-0 c.in_default.not-Some (checks_left c.loop-env.checks ≡ [])
    (λ e. checks_left c.loop-env.checks ≡ env_of e ∷ checks_left c.next_env.new.self) c.in_ok-env.ensures.next in
    ap (list_any a) (sym over) ∙ c.loop-env.invariant
