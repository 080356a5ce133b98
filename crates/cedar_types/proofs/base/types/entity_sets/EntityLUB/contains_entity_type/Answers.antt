use Rattle.std.proofs.Common.{◌∙◌, ap}
use Rattle.std.specs.List.{list_any}
use Rattle.cedar_types.specs.Names.{type_of, path_eq}
use Rattle.cedar_types.specs.Types.{types_of, lub_of}
use Rattle.cedar_types.proofs.Names.Paths.{contained, names_cmp}
use Rattle.cedar_types.proofs.base.types.entity_sets.EntityLUB.contains_entity_type.Goals as goal

pub returns : goal.returns
unfolding lub_of
returns c =
    c.contains.ensures
    ∙ contained _ (type_of c.args.entity_type.now) (λ k. names_cmp c.args.entity_type.now.name k.name) c.deref.result.now.keys
    ∙ ap (λ s. list_any (path_eq (type_of c.args.entity_type.now)) (types_of s)) c.deref.ensures
