-- Two expressions have one shape exactly if the conditions that they were made as have one form.
use Rattle.std.proofs.Common.{◌≡◌, ◌∙◌, Bool, IsTrue, ◌↔◌, ap, sym}
use Rattle.cedar_types.specs.declared.base.expressions.Expr.{Expr}
use Rattle.cedar_types.specs.Expressions.Tree.{Shape, Tree, map_tree}
use Rattle.cedar_types.specs.Expressions.View.{Written, shape, written}
use Rattle.cedar_types.proofs.Expressions.Marks.{shape-written}

form : (e : Expr (Unit {0})) (t : Tree Written) → written e ≡ t → shape e ≡ map_tree (λ (_ : Written). tt) t
form e t h = shape-written e ∙ ap (map_tree (λ (_ : Written). tt)) h

pub same_forms : (own wanted : Expr (Unit {0})) (a b : Tree Written) (r : Bool) → written own ≡ a → written wanted ≡ b
    → IsTrue r ↔ (shape own ≡ shape wanted)
    → IsTrue r ↔ (◌≡◌ {A = Shape} (map_tree (λ (_ : Written). tt) a) (map_tree (λ (_ : Written). tt) b))
same_forms own wanted a b r h k e = (
  (λ t. sym (form own a h) ∙ (e.0 t ∙ form wanted b k)),
  (λ p. e.1 (form own a h ∙ (p ∙ sym (form wanted b k)))),
)
