use Rattle.std.proofs.Common.{◌∙◌, sym, ap}
use Rattle.cedar_types.specs.Types.{entries_of, are_well_formed}
use Rattle.cedar_types.proofs.Attributes.{attributes_are}
use Rattle.cedar_types.proofs.Attributes.Records.{attributes_ascend}
use Rattle.cedar_types.proofs.base.type_laws.+form.Goals as goal

pub attributes_are_well_formed-loop-attribute-init : goal.attributes_are_well_formed-loop-attribute-init
attributes_are_well_formed-loop-attribute-init t c =
    ap are_well_formed (attributes_are c.args.attributes.now)
    ∙ ap (λ es. are_well_formed (entries_of es))
    (sym (c.into_iter-attribute-iterator.ensures.into_iter_gives ∙ c.iter-attribute-items.ensures.rest
    ∙ ap (λ m. m.entries) c.deref.ensures))

pub attributes_are_well_formed-returns-clause-ascend : goal.attributes_are_well_formed-returns-clause-ascend
attributes_are_well_formed-returns-clause-ascend t c =
    attributes_ascend c.args.attributes.now c.deref.result.now c.deref.ensures
    c.iter-attribute-items.ensures.ordered
