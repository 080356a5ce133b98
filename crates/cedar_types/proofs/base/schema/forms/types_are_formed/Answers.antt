use Rattle.std.proofs.Common.{◌+◌, ◌<◌, ◌&&◌, length, map, drop, arith, ap, sym, ◌∙◌}
use Rattle.std.specs.List.{list_all}
use Rattle.cedar_types.specs.Schemas.Declarations.{declared_type}
use Rattle.cedar_types.specs.Schemas.Formed.{kind_is_formed}
use Rattle.cedar_types.specs.Schemas.{DeclaredType}
use Rattle.cedar_types.proofs.Items.{next_item}
use Rattle.cedar_types.proofs.base.schema.forms.types_are_formed.Goals as goal

pub loop-entity_type-preserved : goal.loop-entity_type-preserved
loop-entity_type-preserved c =
    let i = c.loop-entity_type.entity_type-index in
    let x = c.entity_type-item.result in
    let here : i < length c.args.types.now = omega arith in
    let left = list_all (λ (t : DeclaredType). kind_is_formed t.kind) (map declared_type (drop (i + 1) c.args.types.now)) in
    ap (λ b. b && left) (sym c.kinds_are_formed.ensures)
    ∙ ap (λ ts. list_all (λ (t : DeclaredType). kind_is_formed t.kind) (map declared_type ts))
    (sym (next_item c.args.types.now i x here c.entity_type-item.is))
    ∙ c.loop-entity_type.invariant
