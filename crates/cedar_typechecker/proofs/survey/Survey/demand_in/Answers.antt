use Rattle.std.proofs.Common.{Bool, [], ◌∷◌, sym, subst}
use Rattle.cedar_types.specs.Templates.{template_of}
use Rattle.cedar_typing.specs.PolicyCheck.Outcome.{Adds}
use Rattle.cedar_typing.proofs.Basics.Gains.{union_adds, put_adds}
use Rattle.cedar_typechecker.specs.LeftOut.{demands_if}
use Rattle.cedar_typechecker.specs.Levels.Demands.{Demand}
use Rattle.cedar_typechecker.specs.Levels.Views.{demand_of, demands_of}
use Rattle.cedar_typechecker.proofs.LeftOut.Asked.{adds_none}
use Rattle.cedar_typechecker.proofs.Surveys.Ties.{is_tied, tie_decides}
use Rattle.cedar_typechecker.proofs.survey.Survey.demand_in.Goals as goal

pub returns-in_ok-insert-clause-demands : goal.returns-in_ok-insert-clause-demands
returns-in_ok-insert-clause-demands c =
    let k = c.in_demand.result in
    let old = c.args.self.now.demands.keys in
    let new = c.insert.new.self.keys in
    let adds : Adds (demands_of old) (demand_of k ∷ []) (demands_of new) =
    union_adds is_tied demand_of tie_decides old (k ∷ []) new
    (put_adds is_tied demand_of tie_decides k old new c.in_ok-insert.ensures.updates.0) in
    let P : Bool → Type 0 = λ b. Adds (demands_of old) (demands_if b (template_of c.args.template.now)) (demands_of new) in
    let Q : Demand → Type 0 = λ d. Adds (demands_of old) (d ∷ []) (demands_of new) in
    subst P (sym c.if-asked.true) (subst Q c.in_demand.ensures adds)

pub returns-else-asked-clause-demands : goal.returns-else-asked-clause-demands
returns-else-asked-clause-demands c =
    let old = c.args.self.now.demands.keys in
    let t = template_of c.args.template.now in
    subst (λ b. Adds (demands_of old) (demands_if b t) (demands_of old)) (sym c.if-asked.false)
    (adds_none t.place (demands_of old))
