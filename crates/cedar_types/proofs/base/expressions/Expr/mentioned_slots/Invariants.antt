use Rattle.std.proofs.Common.{◌≡◌, ◌||◌}
use Rattle.std.specs.List.{list_any}
use Rattle.cedar_types.specs.declared.base.names.slots.SlotId.{SlotId}
use Rattle.cedar_types.specs.Expressions.Parts.{mentions_slot, is_slot, expressions_left}
use Rattle.cedar_types.specs.Expressions.View.{written}
use Rattle.cedar_types.proofs.base.expressions.Expr.mentioned_slots.Given as goal

-- A slot occurs if one so far is it, or if one of the remaining subexpressions is it
abbrev pub invariant-loop-item : goal.invariant-loop-item
invariant-loop-item g l =
    ((l.principal || list_any (is_slot SlotId.Principal) (expressions_left l.item-iterator))
    ≡ mentions_slot SlotId.Principal (written l.fn.self))
    × ((l.resource || list_any (is_slot SlotId.Resource) (expressions_left l.item-iterator))
    ≡ mentions_slot SlotId.Resource (written l.fn.self))
