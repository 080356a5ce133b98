use Rattle.std.proofs.Common.{◌+◌, ◌<◌, ◌++◌, length, map, drop, append_assoc, arith, ap, sym, ◌∙◌}
use Rattle.cedar_types.specs.Schemas.Declarations.{declared_type, type_kind}
use Rattle.cedar_types.specs.Types.{ty_of}
use Rattle.cedar_types.specs.Types.Lookups.{kind_tags, tags_of_any}
use Rattle.cedar_types.proofs.Items.{next_item}
use Rattle.cedar_types.proofs.base.schema.tag_types.tags_of_any.Goals as goal

pub loop-entity_type-preserved : goal.loop-entity_type-preserved
loop-entity_type-preserved c =
    let i = c.loop-entity_type.entity_type-index in
    let x = c.entity_type-item.result in
    let here : i < length c.args.types.now = omega arith in
    let added = map ty_of c.loop-entity_type.tags.items in
    let left = tags_of_any (map declared_type (drop (i + 1) c.args.types.now)) in
    ap (λ us. us ++ left) c.in_ok-add_tags.ensures
    ∙ append_assoc added (kind_tags (type_kind x.kind)) left
    ∙ ap (λ ts. added ++ tags_of_any (map declared_type ts)) (sym (next_item c.args.types.now i x here c.entity_type-item.is))
    ∙ c.loop-entity_type.invariant
