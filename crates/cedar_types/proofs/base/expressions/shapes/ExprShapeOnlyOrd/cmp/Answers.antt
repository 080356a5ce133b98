use Rattle.std.proofs.Common.{rules}
use Rattle.cedar_types.specs.Expressions.ShapeOnly.{shape_cmp}
use Rattle.cedar_types.proofs.base.expressions.shapes.ExprShapeOnlyOrd.cmp.Goals as goal

pub returns : goal.returns
unfolding shape_cmp
returns c = search rules
