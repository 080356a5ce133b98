use Rattle.std.proofs.Common.{◌∙◌, sym, rules, tests}
use Rattle.std.proofs.lemmas.Iterator.{YieldsList-from_slice}
use Rattle.std.proofs.lemmas.Iterator.Search.{all_from_yields_List}
use Rattle.std.proofs.lemmas.List.Folds.{list_all-map}
use Rattle.cedar_types.specs.Names.{uid_of}
use Rattle.cedar_types.specs.Schemas.{declares_action}
use Rattle.cedar_typing.specs.Views.{env_at}
use Rattle.cedar_typing.proofs.typecheck.type_env.TypeEnv.are_declared.Goals as goal

pub returns : goal.returns
returns c =
    let acts = (env_at c.args.self.now).schema.actions in
    all_from_yields_List (λ u. declares_action acts (uid_of u)) _ _ _ c.all.ensures.ran
    (YieldsList-from_slice c.args.actions.now cc) (λ x b q k. search (rules, tests))
    ∙ sym (list_all-map (declares_action acts) uid_of c.args.actions.now)
