use Rattle.std.proofs.Common.{◌↔◌, ◌∷◌, List, [], map, refl, sym, ap, subst, ◌∙◌}
use Rattle.std.specs.Prelude.{IsPermutation}
use Rattle.cedar_types.specs.declared.base.errors.validation_errors.ValidationError.{ValidationError}
use Rattle.cedar_types.specs.Errors.{Finding, finding_of}
use Rattle.cedar_types.specs.Environments.Linking.{checked_envs}
use Rattle.cedar_types.specs.Environments.RequestEnvs.{Env, env_of}
use Rattle.cedar_types.specs.Schemas.Contents.{schema_of}
use Rattle.cedar_types.specs.Templates.{template_of}
use Rattle.cedar_typing.specs.declared.typecheck.request_env_checks.RequestEnvChecks.{RequestEnvChecks}
use Rattle.cedar_typing.specs.Views.Checks.{verdict_of, schema_by, mode_by}
use Rattle.cedar_typing.specs.Views.EnvironmentChecks.{checker_of, template_in, condition_in, checks_left}
use Rattle.cedar_typing.specs.Evaluation.Conformance.{IsOneOf}
use Rattle.cedar_typing.proofs.Policies.ChecksLeft.{one_more_done, of_item, of_input}
use Rattle.cedar_typing.proofs.typecheck.typechecker.Typechecker.tally.Goals as goal

pub loop-item-init : goal.loop-item-init
loop-item-init g c =
    let all : List Env = checked_envs (schema_of (schema_by c.args.self.now).now) (mode_by c.args.self.now) (template_of c.args.t.now) in
    let e = c.into_iter-item-iterator.ensures.into_iter_gives in
    let n = c.in_ok-item-items.ensures in
    let P : RequestEnvChecks _ → Type 0 = λ s. IsPermutation (checks_left s) all in
    let Q : List ValidationError → Type 0 = λ ks. (f : Finding) → IsOneOf f (map finding_of ks) ↔ IsOneOf f [] in (
      ap checker_of e ∙ n.checker,
      ap template_in e ∙ n.template,
      ap condition_in e ∙ n.condition,
      [],
      [],
      subst P (sym e) n.left,
      tt,
      record { passes = refl; irrelevant = refl; errors = subst Q (sym c.new.ensures.empty) (λ f. (λ k. k, λ k. k)) },
    )

pub loop-item-preserved : goal.loop-item-preserved
loop-item-preserved g c =
    let m = g.C.ArgumentCheck.refusal in
    let s = c.loop-item.item-iterator in
    let t = c.next.new.self in
    let all : List Env = checked_envs (schema_of (schema_by c.args.self.now).now) (mode_by c.args.self.now) (template_of c.args.t.now) in
    let inv = c.loop-item.invariant in
    let env = env_of c.in_ok-env.env in
    let v = verdict_of c.in_ok-env.check in
    let h = of_item m s t c.in-Some.item (c.in_ok-env.env, c.in_ok-env.check) c.in_ok-env.was c.in-Some.ensures.steps in (
      h.2.checker ∙ inv.0,
      h.2.template ∙ inv.1,
      h.2.condition ∙ inv.2,
      env ∷ inv.3,
      v ∷ inv.4,
      one_more_done inv.3 (checks_left s) (checks_left t) all env h.0.2 inv.5,
      (of_input m s c.args.self.now c.args.t.now inv.0 inv.1 inv.2 env v h.1, inv.6),
      c.in_ok-take_in.ensures inv.4 inv.7,
    )
