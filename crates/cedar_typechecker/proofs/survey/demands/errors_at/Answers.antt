use Rattle.std.proofs.Common.{◌≡◌, ◌∙◌, ◌++◌, List, [], map, sym, ap, subst}
use Rattle.cedar_types.specs.declared.base.errors.validation_errors.ValidationError.{ValidationError}
use Rattle.cedar_types.specs.Errors.{Finding, finding_of}
use Rattle.cedar_types.specs.Names.{text_of}
use Rattle.cedar_typing.specs.PolicyCheck.Outcome.{Adds}
use Rattle.cedar_typing.proofs.Basics.Gains.{union_adds}
use Rattle.cedar_typing.proofs.Policies.Tallies.{is_tied, tie_decides}
use Rattle.cedar_typechecker.specs.Levels.Demands.{told}
use Rattle.cedar_typechecker.specs.Levels.Views.{demands_of, findings}
use Rattle.cedar_typechecker.proofs.Levels.Gains.{nil_right}
use Rattle.cedar_typechecker.proofs.survey.demands.errors_at.Goals as goal

pub returns : goal.returns
returns c =
    let found = c.loop-demand.found.items in
    let p = text_of c.args.policy_id.now.text in
    let n = c.args.maximum in
    let all = told p n (demands_of c.args.demands.now.keys) in
    let told_all : findings found ≡ all =
    sym (nil_right (findings found))
    ∙ (ap (λ ds. findings found ++ told p n (demands_of ds)) (sym c.in-None.ensures.steps.0)
    ∙ c.loop-demand.invariant) in
    let gained = union_adds is_tied finding_of tie_decides c.new-errors.result.keys found
    c.insert_all.new.set.keys c.in_ok-insert_all.ensures in
    let P : List ValidationError → Type 0 = λ ks. Adds (map finding_of ks) (findings found)
    (findings c.insert_all.new.set.keys) in
    let Q : List Finding → Type 0 = λ es. Adds [] es (findings c.insert_all.new.set.keys) in
    subst Q told_all (subst P c.new-errors.ensures.empty gained)
