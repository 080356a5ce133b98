use Rattle.std.proofs.Common.{◌∙◌, sym, rules, tests}
use Rattle.std.proofs.lemmas.Iterator.{YieldsList-from_slice}
use Rattle.std.proofs.lemmas.Iterator.Search.{all_from_yields_List}
use Rattle.std.proofs.lemmas.List.Folds.{list_all-map}
use Rattle.cedar_types.specs.Names.{Uid, path_eq, type_of, uid_of}
use Rattle.cedar_typechecker.proofs.survey.scope.are_of_type.Goals as goal

pub returns : goal.returns
returns c =
    all_from_yields_List (λ a. path_eq (uid_of a).entity_type (type_of c.args.entity_type.now)) _ _ _ c.all.ensures.ran
    (YieldsList-from_slice c.args.actions.now cc) (λ x b q k. search (rules, tests))
    ∙ sym (list_all-map (λ (u : Uid). path_eq u.entity_type (type_of c.args.entity_type.now)) uid_of c.args.actions.now)
