use Rattle.std.proofs.Common.{◌∙◌, sym}
use Rattle.cedar_types.specs.Expressions.View.{shape}
use Rattle.cedar_types.specs.Lemmas.TreeSame.{tree_eq-Decides}
use Rattle.cedar_types.specs.Lemmas.Same.{expr_is}
use Rattle.cedar_types.proofs.base.expressions.Expr.has_shape_of.Goals as goal

pub returns : goal.returns
returns g c =
    let e = c.eq.ensures ∙ expr_is g.row.T c.args.self.now c.args.other.now in
    let d = tree_eq-Decides (shape c.args.self.now) (shape c.args.other.now) in
    record { test = e; equality = (λ h. d.0 (sym e ∙ h), λ h. e ∙ d.1 h) }
