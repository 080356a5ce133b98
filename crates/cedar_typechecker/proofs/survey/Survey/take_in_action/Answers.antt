use Rattle.std.proofs.Common.{List, map, sym, ◌∙◌, subst}
use Rattle.std.specs.List.{flat_map}
use Rattle.cedar_types.specs.Environments.{DeclaredEnv, principal_environments}
use Rattle.cedar_types.specs.Environments.RequestEnvs.{unlinked}
use Rattle.cedar_types.specs.Names.{Path, type_of, uid_of}
use Rattle.cedar_types.specs.Types.{types_of, ty_of}
use Rattle.cedar_typechecker.specs.Surveyed.{TakesIn}
use Rattle.cedar_typechecker.proofs.Surveyed.Growth.{takes_both}
use Rattle.cedar_typechecker.proofs.Surveyed.Listing.{map_joined}
use Rattle.cedar_typechecker.proofs.survey.Survey.take_in_action.Goals as goal

pub loop-principal-preserved : goal.loop-principal-preserved
loop-principal-preserved g c = (
  c.in_ok-take_in_principal.ensures.policy ∙ c.loop-principal.invariant.0,
  λ b t on new h.
      let old = c.loop-principal.self in
      let mid = c.take_in_principal.new.self in
      let a = c.in-Some-defined.applies_to.now in
      let of_principal : Path → List DeclaredEnv = principal_environments (uid_of c.in-Some.declared.now.name) (ty_of a.context.value)
      (types_of a.resource_apply_spec) in
      let here = of_principal (type_of c.in-Some-principal.principal.now) in
      let rest = flat_map of_principal (map type_of c.next.new.self) in
      c.loop-principal.invariant.1 b t on new
      (subst (λ xs. TakesIn b t old new (map unlinked (flat_map of_principal (map type_of xs)))) (sym c.in-Some-principal.ensures.steps)
      (subst (TakesIn b t old new) (sym (map_joined unlinked here rest))
      (takes_both b t old mid new (map unlinked here) (map unlinked rest) (c.in_ok-take_in_principal.ensures.surveys b t on) h))),
)
