use Rattle.std.proofs.Common.{◌≡◌}
use Rattle.cedar_types.specs.Expressions.Parts.{subexpressions, expressions_left}
use Rattle.cedar_types.specs.Expressions.View.{written}
use Rattle.cedar_alike.proofs.Alike.Flags.{nothing, with_nodes}
use Rattle.cedar_alike.proofs.reads.Reads.of.Given as goal

-- the remaining nodes complete the flags of all nodes
abbrev pub invariant-loop-item : goal.invariant-loop-item
invariant-loop-item g l =
    with_nodes l.reads (expressions_left l.item-iterator)
    ≡ with_nodes nothing (subexpressions (written l.fn.expr))
