use Rattle.std.proofs.Common.{◌≡◌, ◌∷◌, ◌++◌, ◌||◌, [], filter, refl, sym, ◌∙◌, ap, subst}
use Rattle.std.specs.List.{list_any}
use Rattle.std.proofs.lemmas.List.Elements.{filter-append}
use Rattle.std.proofs.lemmas.List.Folds.{list_any-append}
use Rattle.cedar_types.specs.Environments.RequestEnvs.{env_of}
use Rattle.cedar_types.specs.Templates.{template_of}
use Rattle.cedar_typing.specs.Views.EnvironmentChecks.{checks_left}
use Rattle.cedar_typechecker.specs.LeftOut.{is_kept_by, is_left_out_by}
use Rattle.cedar_typechecker.specs.Surveyed.{TakesIn, admitted_by, asks_of}
use Rattle.cedar_typechecker.proofs.Surveyed.Decided.{takes_left, takes_kept_and_left}
use Rattle.cedar_typechecker.proofs.Surveyed.Growth.{takes_both, still_checks}
use Rattle.cedar_typechecker.proofs.Surveyed.Quiet.{IsSameBeside}
use Rattle.cedar_typechecker.proofs.Surveyed.Steps.{given_some, given_none, shorter, same_itself, same_still, one_done, all_done, or_none}
use Rattle.cedar_typechecker.proofs.survey.Survey.take_in_linked.Goals as goal

pub loop-env-init : goal.loop-env-init
loop-env-init g c = (
  c.in_ok-asked.ensures.policy,
  same_itself c.args.checks.now,
  env_of c.args.first.now ∷ [],
  refl,
  c.in_ok-asked.ensures.asks ∙ sym (or_none (asks_of c.args.scope (env_of c.args.first.now))),
  λ b t on. c.in_ok-asked.ensures.surveys b t on,
)

pub loop-env-preserved : goal.loop-env-preserved
loop-env-preserved g c =
    let m = g.C.ArgumentCheck.refusal in
    let d = c.args.scope in
    let s = c.loop-env.checks in
    let t' = c.next_env.new.self in
    let inv = c.loop-env.invariant in
    let env = env_of c.in-Some.env in
    let step : checks_left s ≡ env ∷ checks_left t' = given_some c.in_ok-env.field-0 c.in-Some.env c.in-Some.is
    (checks_left s ≡ []) (λ e. checks_left s ≡ env_of e ∷ checks_left t') c.in_ok-env.ensures.next in
    let same = same_still c.args.checks.now s t' inv.1 c.in_ok-env.ensures.input in (
      c.in_ok-asks.ensures.policy ∙ inv.0,
      same,
      inv.2 ++ env ∷ [],
      one_done inv.2 (checks_left s) (checks_left t') (env_of c.args.first.now ∷ checks_left c.args.checks.now) env step inv.3,
      (λ i. inv.4 i || (c.in_ok-asks.ensures.asks ∙ sym (or_none (asks_of d env))) i)
          ∙ sym (list_any-append (asks_of d) inv.2 (env ∷ [])),
      λ b t on.
          subst (TakesIn b t c.args.self.now c.take_in_admitted-in-Some.new.self)
          (sym (filter-append (is_kept_by (admitted_by d)) inv.2 (env ∷ [])))
          (takes_both b t c.args.self.now c.loop-env.self c.take_in_admitted-in-Some.new.self _ _ (inv.5 b t on)
          (c.in_ok-asks.ensures.surveys b t (still_checks m c.args.checks.now t' d.schema.now b t same on))),
    )

pub loop-env-smaller : goal.loop-env-smaller
loop-env-smaller g c =
    let step = given_some c.in_ok-env.field-0 c.in-Some.env c.in-Some.is (checks_left c.loop-env.checks ≡ [])
    (λ e. checks_left c.loop-env.checks ≡ env_of e ∷ checks_left c.next_env.new.self) c.in_ok-env.ensures.next in
    shorter (checks_left c.loop-env.checks) (checks_left c.next_env.new.self) (env_of c.in-Some.env) step

pub returns-clause-surveys : goal.returns-clause-surveys
returns-clause-surveys g c b on =
    let m = g.C.ArgumentCheck.refusal in
    let d = c.args.scope in
    let t = template_of d.template.now in
    let inv = c.loop-env.invariant in
    let left = env_of c.args.first.now ∷ checks_left c.args.checks.now in
    let over : checks_left c.loop-env.checks ≡ [] =
    given_none c.in_ok-env.field-0 c.in_default.not-Some (checks_left c.loop-env.checks ≡ [])
    (λ e. checks_left c.loop-env.checks ≡ env_of e ∷ checks_left c.next_env.new.self) c.in_ok-env.ensures.next in
    let all : inv.2 ≡ left = all_done inv.2 (checks_left c.loop-env.checks) left over inv.3 in
    let old = c.args.self.now in
    let mid = c.loop-env.self in
    let new = c.demand_in.new.self in
    let e = c.in_ok-demand_in.ensures in
    let same : IsSameBeside mid new = record {
      errors = e.errors;
      passes = e.passes;
      impossible = e.impossible;
      silent = e.silent;
      applicable = e.applicable;
    } in
    let kept : TakesIn b t old mid (filter (is_kept_by (admitted_by d)) left) =
    subst (λ es. TakesIn b t old mid (filter (is_kept_by (admitted_by d)) es)) all (inv.5 b t on.are_on) in
    let out : TakesIn b t mid new (filter (is_left_out_by (admitted_by d)) left) =
    takes_left m c.args.checks.now d b left on mid new same c.loop-env.asked e.demands left refl
    (inv.4 ∙ ap (list_any (asks_of d)) all) in
    takes_kept_and_left m c.args.checks.now d b left on old mid new kept out

pub returns-clause-policy : goal.returns-clause-policy
returns-clause-policy g c = c.in_ok-demand_in.ensures.policy ∙ c.loop-env.invariant.0
