use Rattle.std.proofs.Common.{List, map, Some, sym, ◌∙◌}
use Rattle.cedar_types.proofs.Expressions.SortedTables.{no_fault}
use Rattle.cedar_types.specs.Environments.Linking.{checked_envs}
use Rattle.cedar_types.specs.Environments.RequestEnvs.{Env, env_of}
use Rattle.cedar_types.specs.Extensions.{functions_of}
use Rattle.cedar_types.specs.Schemas.Contents.{schema_of}
use Rattle.cedar_types.specs.Templates.{PlainTemplate, template_of, condition_of}
use Rattle.cedar_typing.specs.Soundness.Policies.{Basis, setting_on}
use Rattle.cedar_typing.specs.Views.Checks.{basis_of, extensions_by, schema_by, verdict_of}
use Rattle.cedar_typing.specs.Views.EnvironmentChecks.{checks_left}
use Rattle.cedar_typing.proofs.Modes.{formed_for}
use Rattle.cedar_typing.proofs.Policies.ChecksLeft.{of_input, of_item}
use Rattle.cedar_typing.proofs.TypedCopies.Policies.{conditions_mean_the_same}
use Rattle.cedar_host.specs.declared.conditions.TypedCondition.{TypedCondition}
use Rattle.cedar_host.specs.Conditions.{env_in, IsOfCheck, AreOfAllChecks}
use Rattle.cedar_host.proofs.Reported.{one_more_right}
use Rattle.cedar_host.proofs.TypedConditions.{all_found, is_one_of_all, mean_it, one_more_found, refused}
use Rattle.cedar_host.proofs.conditions.typed_conditions.Goals as goal

pub returns-in_default-clause-exact : goal.returns-in_default-clause-exact
returns-in_default-clause-exact g c =
    let m = g.C.ArgumentCheck.refusal in
    let s = c.loop-item.item-iterator in
    let t = c.next.new.self in
    let b : Basis = basis_of m c.args.typechecker.now in
    let p : PlainTemplate = template_of c.args.policy.now in
    let inv = c.loop-item.invariant in
    let env : Env = env_of c.in_ok-env.env in
    let v = verdict_of c.in_ok-env.check in
    let h = of_item m s t c.in-Some.item (c.in_ok-env.env, c.in_ok-env.check) c.in_ok-env.was
    c.in-Some.ensures.steps in
    let checks = of_input m s c.args.typechecker.now c.args.policy.now inv.0 inv.1 inv.2 env v h.1 in
    let no = refused (setting_on b p.id env) (condition_of p) v (sym c.in_default.ensures) checks in
    let before = map env_in c.loop-item.found.items in (
      env,
      is_one_of_all before (checks_left s) (checks_left t) (checked_envs b.schema b.mode p) env h.0.2 inv.3,
      no.0,
      no.1,
    )

pub loop-item-preserved : goal.loop-item-preserved
loop-item-preserved g c =
    let m = g.C.ArgumentCheck.refusal in
    let s = c.loop-item.item-iterator in
    let t = c.next.new.self in
    let b : Basis = basis_of m c.args.typechecker.now in
    let p : PlainTemplate = template_of c.args.policy.now in
    let inv = c.loop-item.invariant in
    let env : Env = env_of c.in_ok-env.env in
    let v = verdict_of c.in_ok-env.check in
    let h = of_item m s t c.in-Some.item (c.in_ok-env.env, c.in_ok-env.check) c.in_ok-env.was
    c.in-Some.ensures.steps in
    let checks = of_input m s c.args.typechecker.now c.args.policy.now inv.0 inv.1 inv.2 env v h.1 in
    let found : TypedCondition = record {
      env = c.in_ok-env.env;
      condition = c.in-Some-condition_of.condition;
    } in
    let of_check : IsOfCheck b p found = (v, checks, sym c.in-Some-condition_of.ensures) in
    let old = c.loop-item.found.items in
    let pushed = c.in_ok-push.ensures.items in (
      h.2.checker ∙ inv.0,
      h.2.template ∙ inv.1,
      h.2.condition ∙ inv.2,
      one_more_found old _ found (checks_left s) (checks_left t) (checked_envs b.schema b.mode p) pushed
          h.0.2 inv.3,
      one_more_right (IsOfCheck b p) old _ found pushed inv.4 of_check,
    )

pub returns-clause-meaning : goal.returns-clause-meaning
unfolding schema_of functions_of
returns-clause-meaning g c =
    let m = g.C.ArgumentCheck.refusal in
    let b : Basis = basis_of m c.args.typechecker.now in
    let p : PlainTemplate = template_of c.args.policy.now in
    let inv = c.loop-item.invariant in
    let cs : List TypedCondition = c.loop-item.found.items in
    let table = no_fault m (extensions_by c.args.typechecker.now).now.functions.items
    (extensions_by c.args.typechecker.now).now.faultless in
    let all : AreOfAllChecks b p cs = record {
      environments =
          all_found cs (checks_left c.loop-item.item-iterator) (checked_envs b.schema b.mode p)
          c.in-None.ensures.steps.0.0 inv.3;
      checked = inv.4;
    } in
    let schema = (schema_by c.args.typechecker.now).now in
    mean_it b p
    (conditions_mean_the_same b p schema.faultless (formed_for b.mode b.schema schema.formed) table) (Some cs) all
