use Rattle.std.proofs.Common.{[], ◌∷◌, map, sym, ◌∙◌, subst}
use Rattle.cedar_types.specs.declared.base.types.CedarType.{CedarType}
use Rattle.cedar_types.specs.Environments.{principal_environments}
use Rattle.cedar_types.specs.Environments.RequestEnvs.{Env, unlinked}
use Rattle.cedar_types.specs.Names.{type_of, uid_of}
use Rattle.cedar_types.specs.Types.{Ty, ty_of}
use Rattle.cedar_typechecker.specs.Surveyed.{TakesIn}
use Rattle.cedar_typechecker.proofs.Surveyed.Growth.{takes_none, takes_both}
use Rattle.cedar_typechecker.proofs.survey.Survey.take_in_principal.Goals as goal

pub loop-resource-preserved-in_ok-take_in_env-2 : goal.loop-resource-preserved-in_ok-take_in_env-2
loop-resource-preserved-in_ok-take_in_env-2 g c = (
  c.in_ok-take_in_env.ensures.policy ∙ c.loop-resource.invariant.0,
  λ b t on new h.
      let old = c.loop-resource.self in
      let mid = c.take_in_env.new.self in
      let p = type_of c.args.principal.now in
      let u = uid_of c.args.action.now in
      let env : Ty → Env = λ x. unlinked (record { principal = p; action = u; resource = type_of c.in-Some.resource.now; context = x }) in
      let context = ty_of c.args.applies_to.now.context.value in
      let one : TakesIn b t old mid (env context ∷ []) =
      subst (λ (x : CedarType). TakesIn b t old mid (env (ty_of x) ∷ [])) c.deref.ensures (c.in_ok-take_in_env.ensures.surveys b t on) in
      c.loop-resource.invariant.1 b t on new
      (subst (λ xs. TakesIn b t old new (map unlinked (principal_environments u context (map type_of xs) p))) (sym c.in-Some.ensures.steps)
      (takes_both b t old mid new (env context ∷ []) (map unlinked (principal_environments u context (map type_of c.next.new.self) p)) one h)),
)

pub returns-clause-surveys : goal.returns-clause-surveys
returns-clause-surveys g c b t on =
    let s = c.loop-resource.self in
    let p = type_of c.args.principal.now in
    let u = uid_of c.args.action.now in
    let context = ty_of c.args.applies_to.now.context.value in
    c.loop-resource.invariant.1 b t on s
    (subst (λ xs. TakesIn b t s s (map unlinked (principal_environments u context (map type_of xs) p))) (sym c.in-None.ensures.steps.0)
    (takes_none b t s))
