use Rattle.std.proofs.Common.{◌≡◌, ◌++◌, map}
use Rattle.cedar_types.specs.Expressions.Parts.{field_values}
use Rattle.cedar_types.specs.Expressions.View.{written, fields_written}
use Rattle.cedar_types.proofs.base.expressions.subexpressions.push_fields.Given as goal

-- The stack, and then the remaining fields, are the stack at first and all the fields
abbrev pub invariant-loop-expr : goal.invariant-loop-expr
invariant-loop-expr g l =
    map (λ e. written e.now) l.stack.items ++ map written l.expr-iterator
    ≡ map (λ e. written e.now) l.fn.stack.items ++ field_values (fields_written l.fn.fields.entries)
