use Rattle.std.proofs.Common.{◌∙◌, ap, sym}
use Rattle.cedar_types.specs.Types.{entries_of}
use Rattle.cedar_types.specs.Schemas.{are_vague}
use Rattle.cedar_types.proofs.Attributes.{attributes_are}
use Rattle.cedar_types.proofs.base.schema.type_faults.+vague.Goals as goal

pub has_vague_attribute-loop-name-init : goal.has_vague_attribute-loop-name-init
has_vague_attribute-loop-name-init t c =
    ap (λ es. are_vague (entries_of es))
    (c.into_iter-name-iterator.ensures.into_iter_gives ∙ c.iter-name-items.ensures.rest
    ∙ ap (λ m. m.entries) c.deref.ensures)
    ∙ ap are_vague (sym (attributes_are c.args.attributes.now))
