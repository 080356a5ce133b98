use Rattle.std.proofs.Common.{◌∙◌, ap, sym}
use Rattle.cedar_types.specs.Types.{entries_of}
use Rattle.cedar_types.specs.Schemas.Tables.{types_in}
use Rattle.cedar_types.specs.Schemas.{attr_names_pass, knows_type}
use Rattle.cedar_types.proofs.Attributes.{attributes_are}
use Rattle.cedar_types.proofs.base.schema.type_faults.+names.Goals as goal

pub attribute_names_known-loop-name-init : goal.attribute_names_known-loop-name-init
attribute_names_known-loop-name-init t c =
    ap (λ es. attr_names_pass (knows_type (types_in c.args.types.now)) (entries_of es))
    (c.into_iter-name-iterator.ensures.into_iter_gives ∙ c.iter-name-items.ensures.rest
    ∙ ap (λ m. m.entries) c.deref.ensures)
    ∙ ap (attr_names_pass (knows_type (types_in c.args.types.now))) (sym (attributes_are c.args.attributes.now))
