use Rattle.std.proofs.Common.{◌≡◌, ap, ◌∙◌}
use Rattle.std.specs.List.{list_any}
use Rattle.cedar_types.specs.declared.base.names.slots.SlotId.{SlotId}
use Rattle.cedar_types.specs.Expressions.View.{written}
use Rattle.cedar_types.specs.Expressions.Parts.{is_slot, subexpressions, expressions_left}
use Rattle.cedar_types.proofs.Expressions.Parts.{slot_found}
use Rattle.cedar_types.proofs.base.expressions.Expr.mentioned_slots.Goals as goal

pub loop-item-init : goal.loop-item-init
loop-item-init g c =
    let whole = written c.args.self.now in
    let left : expressions_left c.into_iter-item-iterator.result
    ≡ subexpressions whole = ap expressions_left c.into_iter-item-iterator.ensures.into_iter_gives
    ∙ c.in_ok-item-items.ensures.left in (
      ap (list_any (is_slot SlotId.Principal)) left ∙ slot_found SlotId.Principal whole,
      ap (list_any (is_slot SlotId.Resource)) left ∙ slot_found SlotId.Resource whole,
    )
