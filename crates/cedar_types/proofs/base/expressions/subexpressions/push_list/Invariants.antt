use Rattle.std.proofs.Common.{◌≡◌, ◌++◌, take, map}
use Rattle.cedar_types.specs.Expressions.View.{written}
use Rattle.cedar_types.proofs.base.expressions.subexpressions.push_list.Given as goal

-- The stack is the stack at first, and then the expressions so far
abbrev pub invariant-loop-expr : goal.invariant-loop-expr
invariant-loop-expr g l =
    map (λ e. written e.now) l.stack.items
    ≡ map (λ e. written e.now) l.initial.stack.items ++ map written (take l.expr-index l.expr-items)
