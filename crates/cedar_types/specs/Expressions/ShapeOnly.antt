-- Expressions that compare by their shape alone: their equality and their order.
use Rattle.std.specs.Prelude.{Bool}
use Rattle.std.specs.declared.cmp.Ordering.{Ordering}
use denote.Builtin.{unit}
use Rattle.cedar_types.specs.declared.base.expressions.Expr.{Expr}
use Rattle.cedar_types.specs.declared.base.expressions.shapes.ExprShapeOnly.{ExprShapeOnly}
use Rattle.cedar_types.specs.declared.base.expressions.shapes.ExprShapeOnly.TheVariants.{Borrowed, Owned}
use Rattle.cedar_types.specs.contracts.base.expressions.ExprOrd.TheImpl as expr_ord
use Rattle.cedar_types.specs.Expressions.Tree.{Shape}
use Rattle.cedar_types.specs.Expressions.TreeEq.{tree_eq}
use Rattle.cedar_types.specs.Expressions.View.{shape}

-- the expression inside
abbrev pub expr_of : ExprShapeOnly → Expr (Unit {0})
expr_of (Borrowed e) = e.now
expr_of (Owned e) = e

-- the shape of the expression inside
abbrev pub shape_of : ExprShapeOnly → Shape
shape_of s = shape (expr_of s)

-- two of them are equal if they have one shape
abbrev pub shape_eq : ExprShapeOnly → ExprShapeOnly → Bool
shape_eq a b = tree_eq (shape_of a) (shape_of b)

-- a total order of shapes; no caller may ask which order it is
unfoldable pub shape_cmp : ExprShapeOnly → ExprShapeOnly → Ordering
shape_cmp a b = (expr_ord.ghosts unit).cmp (expr_of a) (expr_of b)
