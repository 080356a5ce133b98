use Rattle.cedar_types.specs.Expressions.Parts.{expressions_left}
use Rattle.cedar_types.specs.Expressions.View.{written}
use Rattle.cedar_alike.proofs.Alike.Flags.{at_end}
use Rattle.cedar_alike.proofs.reads.Reads.of.Goals as goal

pub returns : goal.returns
returns g c =
    at_end c.loop-item.reads (expressions_left c.loop-item.item-iterator) (written c.args.expr.now)
    c.in-None.ensures.steps.0 c.loop-item.invariant
