use Rattle.std.proofs.Common.{◌∷◌, sym, ◌∙◌, subst}
use Rattle.std.specs.List.{list_any}
use Rattle.cedar_types.specs.Environments.RequestEnvs.{env_of}
use Rattle.cedar_types.specs.Templates.{template_of}
use Rattle.cedar_typing.specs.Evaluation.Conformance.{IsOneOf}
use Rattle.cedar_typing.specs.PolicyCheck.Outcome.{Adds}
use Rattle.cedar_typing.specs.Views.EnvironmentChecks.{checks_left}
use Rattle.cedar_typechecker.specs.LeftOut.{demands_if}
use Rattle.cedar_typechecker.specs.Levels.Demands.{Demand}
use Rattle.cedar_typechecker.specs.Levels.Views.{demand_of, demands_of}
use Rattle.cedar_typechecker.specs.Surveyed.{asks_of}
use Rattle.cedar_typechecker.proofs.LeftOut.Asked.{adds_none, adds_known}
use Rattle.cedar_typechecker.proofs.LeftOut.Sets.{any_to}
use Rattle.cedar_typechecker.proofs.LeftOut.Visits.{none_asks}
use Rattle.cedar_typechecker.proofs.Surveys.Ties.{is_tied, tie_decides}
use Rattle.cedar_typechecker.proofs.survey.Survey.take_in_left_out.Goals as goal

-- without an `in` none asks
pub returns-then-not-has_in-clause-demands : goal.returns-then-not-has_in-clause-demands
returns-then-not-has_in-clause-demands g c =
    let d = c.args.scope in
    let t = template_of d.template.now in
    let old = c.args.self.now.demands.keys in
    let left = env_of c.args.first.now ∷ checks_left c.args.checks.now in
    let none = none_asks d left (sym c.has_in.ensures ∙ c.if-not-has_in.true) in
    subst (λ b. Adds (demands_of old) (demands_if b t) (demands_of old)) (sym none) (adds_none t.place (demands_of old))

-- the demand is there
pub returns-then-contains-clause-demands : goal.returns-then-contains-clause-demands
returns-then-contains-clause-demands g c =
    let d = c.args.scope in
    let t = template_of d.template.now in
    let old = c.args.self.now.demands.keys in
    let left = env_of c.args.first.now ∷ checks_left c.args.checks.now in
    let k = c.in_demand.result in
    let there : IsOneOf (demand_of k) (demands_of old) =
    any_to (is_tied k) demand_of (demand_of k) (tie_decides k) old (sym c.contains.ensures ∙ c.if-contains.true) in
    adds_known t.place (list_any (asks_of d) left) (demands_of old)
    (subst (λ (z : Demand). IsOneOf z (demands_of old)) c.in_demand.ensures there)

pub returns-clause-demands : goal.returns-clause-demands
returns-clause-demands g c =
    let t = template_of c.args.scope.template.now in
    subst (λ b. Adds (demands_of c.args.self.now.demands.keys) (demands_if b t) (demands_of c.demand_in.new.self.demands.keys))
    c.in_ok-asked.ensures c.in_ok-demand_in.ensures.demands
