use Rattle.std.proofs.Common.{◌≡◌, List, sym, subst}
use Rattle.cedar_typing.specs.PolicyCheck.Outcome.{Adds}
use Rattle.cedar_typing.specs.TypedExpr.{typed_tree}
use Rattle.cedar_typing.proofs.Basics.Gains.{union_adds}
use Rattle.cedar_typechecker.specs.declared.level_validate.demands.Demand as code
use Rattle.cedar_typechecker.specs.Levels.Demands.{Demand, add_demands}
use Rattle.cedar_typechecker.specs.Levels.Views.{surroundings_of, demand_of, demands_of}
use Rattle.cedar_typechecker.proofs.Surveys.Ties.{is_tied, tie_decides}
use Rattle.cedar_typechecker.proofs.survey.Survey.take_in_demands.Goals as goal

pub returns-clause-demands : goal.returns-clause-demands
returns-clause-demands c =
    let old = c.args.self.now.demands.keys in
    let new = c.insert_all.new.set.keys in
    let found = c.check.new.found.items in
    let w = c.args.walk.now in
    let walked : List code.Demand → Type 0 = λ xs. add_demands (surroundings_of w)
    (typed_tree c.args.condition.now) w.hidden_below (demands_of xs) ≡ demands_of found in
    let from_none = subst walked c.new-found.ensures.items c.in_ok-check.ensures in
    let gained = union_adds is_tied demand_of tie_decides old found new
    c.in_ok-insert_all.ensures in
    let P : List Demand → Type 0 = λ ds. Adds (demands_of old) ds (demands_of new) in
    subst P (sym from_none) gained
