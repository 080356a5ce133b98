-- The equality and the order of expressions that compare by shape are lawful.
use Rattle.std.specs.Prelude.{◌≡◌}
use Rattle.std.proofs.Common.{sym, ◌∙◌}
use Rattle.std.specs.Cmp.{IsTotalOrder, IsEquivalence, on_total, on_equiv, decided}
use Rattle.std.specs.Ordering.{is_eq}
use denote.Builtin.{unit}
use Rattle.cedar_types.specs.declared.base.expressions.shapes.ExprShapeOnly.{ExprShapeOnly}
use Rattle.cedar_types.specs.contracts.base.expressions.ExprOrd.TheImpl.Laws as expr_ord_laws
use Rattle.cedar_types.specs.Expressions.TreeEq.{tree_eq}
use Rattle.cedar_types.specs.Lemmas.TreeSame.{tree_eq-Decides}
use Rattle.cedar_types.specs.Lemmas.Same.{expr_is}
use Rattle.cedar_types.specs.Expressions.ShapeOnly.{expr_of, shape_of, shape_eq, shape_cmp}

pub shape_eq_equiv : IsEquivalence shape_eq
shape_eq_equiv = on_equiv shape_of (decided tree_eq tree_eq-Decides)

pub shape_cmp_total : IsTotalOrder shape_cmp
unfolding shape_cmp
shape_cmp_total = on_total expr_of (expr_ord_laws.total-law unit)

-- the order calls expressions equal exactly if `==` calls them equal
pub shape_cmp_ties : (a b : ExprShapeOnly) → shape_eq a b ≡ is_eq (shape_cmp a b)
unfolding shape_cmp
shape_cmp_ties a b = sym (expr_is unit (expr_of a) (expr_of b)) ∙ expr_ord_laws.matches_eq-law unit (expr_of a) (expr_of b)
