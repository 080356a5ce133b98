use Rattle.std.proofs.Common.{◌+◌, ◌<◌, ◌&&◌, length, map, drop, arith, ap, sym, ◌∙◌}
use Rattle.std.specs.List.{list_all}
use Rattle.cedar_types.specs.Schemas.Declarations.{declared_action}
use Rattle.cedar_types.specs.Schemas.Formed.{application_is_formed}
use Rattle.cedar_types.specs.Schemas.{DeclaredAction}
use Rattle.cedar_types.proofs.Items.{next_item}
use Rattle.cedar_types.proofs.base.schema.forms.actions_are_formed.Goals as goal

pub loop-action-preserved : goal.loop-action-preserved
loop-action-preserved c =
    let i = c.loop-action.action-index in
    let x = c.action-item.result in
    let here : i < length c.args.actions.now = omega arith in
    let left = list_all (λ (a : DeclaredAction). application_is_formed a.applies_to)
    (map declared_action (drop (i + 1) c.args.actions.now)) in
    ap (λ b. b && left) (sym c.applications_are_formed.ensures)
    ∙ ap (λ ts. list_all (λ (a : DeclaredAction). application_is_formed a.applies_to) (map declared_action ts))
    (sym (next_item c.args.actions.now i x here c.action-item.is))
    ∙ c.loop-action.invariant
