use Rattle.std.proofs.Common.{◌≡◌}
use Rattle.std.specs.List.{list_any}
use Rattle.cedar_types.specs.Expressions.Parts.{mentions_slot, is_slot, expressions_left}
use Rattle.cedar_types.specs.Expressions.View.{written}
use Rattle.cedar_types.proofs.base.expressions.Expr.mentions_slot.Given as goal

-- The remaining subexpressions decide the answer
abbrev pub invariant-loop-item : goal.invariant-loop-item
invariant-loop-item g l =
    list_any (is_slot l.slot) (expressions_left l.item-iterator)
    ≡ mentions_slot l.fn.slot (written l.fn.self)
