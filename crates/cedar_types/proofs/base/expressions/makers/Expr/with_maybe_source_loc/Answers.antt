use Rattle.cedar_types.proofs.Expressions.PlacedTrees.{written-at}
use Rattle.cedar_types.proofs.base.expressions.makers.Expr.with_maybe_source_loc.Goals as goal

pub returns : goal.returns
returns c = written-at (Unit {0}) c.args.self.annotation c.args.self.kind c.args.self.loc c.args.loc
