use Rattle.std.proofs.Common.{◌∙◌, ◌||◌, Bool, rules, tests}
use Rattle.std.proofs.lemmas.Iterator.{YieldsList-from_slice}
use Rattle.std.proofs.lemmas.Iterator.Search.{any_from_yields_List}
use Rattle.cedar_types.specs.Names.{Uid, uid_of, uid_eq}
use Rattle.cedar_types.specs.Schemas.{descendants_of_action, uid_is_among}
use Rattle.cedar_types.proofs.Schema.Places.{any_mapped}
use Rattle.cedar_typing.specs.Views.{env_at}
use Rattle.cedar_typing.proofs.typecheck.type_env.TypeEnv.is_action_in.Goals as goal

pub returns : goal.returns
returns c =
    let acts = (env_at c.args.self.now).schema.actions in
    let u = uid_of c.args.action.now in
    let is_at_or_below : Uid → Bool = λ v. uid_eq u v || uid_is_among (descendants_of_action acts v) u in
    any_from_yields_List (λ v. is_at_or_below (uid_of v)) _ _ _ c.any.ensures.ran
    (YieldsList-from_slice c.args.ancestors.now cc) (λ x b q k. search (rules, tests))
    ∙ any_mapped uid_of is_at_or_below c.args.ancestors.now
