use Rattle.std.proofs.Common.{◌≡◌, List, ◌++◌, map, sym, ap, ◌∙◌, arith}
use Rattle.std.proofs.lemmas.Grind.{common_steps}
use Rattle.cedar_types.specs.Expressions.Tree.{Tree}
use Rattle.cedar_types.specs.Expressions.View.{Written, written}
use Rattle.cedar_types.proofs.Expressions.Parts.{listed_again}
use Rattle.cedar_types.proofs.base.expressions.subexpressions.push_list.Goals as goal

pub returns : goal.returns
returns g c =
    let before : List (Tree Written) = map (λ e. written e.now) c.args.stack.now.items in
    let pushed : List (Tree Written) = map written c.args.exprs.now.items in
    let all : map (λ e. written e.now) c.loop-expr.stack.items ≡ before ++ pushed = grind (arith, common_steps) in
    all ∙ ap (λ ts. before ++ ts) (sym (listed_again pushed))
