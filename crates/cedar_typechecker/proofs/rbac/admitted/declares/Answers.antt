use Rattle.std.proofs.Common.{◌∙◌, ap, sym, is_some}
use Rattle.cedar_types.specs.Names.{path_eq, type_of}
use Rattle.cedar_types.specs.Schemas.{DeclaredType}
use Rattle.cedar_types.specs.Schemas.Contents.{schema_of}
use Rattle.cedar_typechecker.proofs.Lists.{found_some, mapped_some}
use Rattle.cedar_typechecker.proofs.rbac.admitted.declares.Goals as goal

pub returns : goal.returns
returns c =
    c.is_some.ensures
    ∙ sym (mapped_some _ c.get_entity_type.result)
    ∙ ap is_some c.get_entity_type.ensures
    ∙ found_some (λ (t : DeclaredType). path_eq (type_of c.args.entity_type.now) t.name) (schema_of c.args.schema.now).types
