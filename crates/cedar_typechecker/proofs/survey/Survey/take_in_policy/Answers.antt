use Rattle.std.proofs.Common.{map, Option, option_map, sym, subst}
use Rattle.std.specs.BTreeSet.{BTreeSet}
use Rattle.cedar_types.specs.declared.base.names.entities.EntityUID.{EntityUID}
use Rattle.cedar_types.specs.Names.{uid_of}
use Rattle.cedar_types.specs.Schemas.{Schema}
use Rattle.cedar_types.specs.Schemas.Contents.{schema_of}
use Rattle.cedar_types.specs.Templates.{ActionScope, action_scope_of}
use Rattle.cedar_typechecker.specs.LeftOut.{Admits, AdmitsIfDecided}
use Rattle.cedar_typechecker.proofs.survey.Survey.take_in_policy.Goals as goal

pub returns-in_ok-take_in_rest-in-None-clause-surveys : goal.returns-in_ok-take_in_rest-in-None-clause-surveys
returns-in_ok-take_in_rest-in-None-clause-surveys g c b on = c.in_ok-take_in_rest-in-None.ensures.surveys b _ on.are_on

pub returns-in_ok-take_in_decided-in-Some-clause-surveys : goal.returns-in_ok-take_in_decided-in-Some-clause-surveys
returns-in_ok-take_in_decided-in-Some-clause-surveys g c b on =
    let a : ActionScope = action_scope_of c.args.template.now.action_constraint in
    let P : Option (BTreeSet EntityUID) → Type 0 = λ o. AdmitsIfDecided (schema_of c.args.schema.now).actions a
    (option_map (λ us. map uid_of us.keys) o) in
    let here : Admits (schema_of c.args.schema.now).actions a (map uid_of c.in-Some.admitted.keys) =
    subst P c.in-Some.is c.in_ok-admitted.ensures in
    c.in_ok-take_in_decided-in-Some.ensures.surveys b (record {
      are_on = on.are_on;
      by_mode = on.by_mode;
      admits = subst (λ (s : Schema). Admits s.actions a (map uid_of c.in-Some.admitted.keys)) (sym on.are_on.by_schema) here;
      all_left = on.all_left;
    })
