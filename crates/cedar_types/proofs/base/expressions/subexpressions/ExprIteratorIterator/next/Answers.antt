use Rattle.std.proofs.Common.{◌≡◌, false, List, [], ◌∷◌, ◌++◌, map, cond, sym, ap, ◌∙◌}
use Rattle.std.proofs.lemmas.List.{map-append}
use Rattle.cedar_types.specs.Expressions.Tree.{Tree}
use Rattle.cedar_types.specs.Expressions.View.{Written, written}
use Rattle.cedar_types.specs.Expressions.Parts.{parts, from_last, has_ended, expressions_left}
use Rattle.cedar_types.proofs.Expressions.Parts.{visited}
use Rattle.cedar_types.proofs.FallibleIterators.{fewer_calls}
use Rattle.cedar_types.proofs.base.expressions.subexpressions.ExprIteratorIterator.next.Goals as goal

pub returns-in-Ok-clause-steps : goal.returns-in-Ok-clause-steps
unfolding has_ended expressions_left
returns-in-Ok-clause-steps g c =
    let e : Tree Written = written c.in-Some.expr.now in
    let whole : List (Tree Written) = map (λ x. written x.now) c.args.self.now.stack.items in
    let below : List (Tree Written) = map (λ x. written x.now) c.pop.new.self.items in
    let after : List (Tree Written) = map (λ x. written x.now) c.push_parts.new.stack.items in
    let running : c.args.self.now.ended ≡ false = c.if-self.false in
    let popped : whole ≡ below ++ e ∷ [] = ap (map (λ x. written x.now)) c.in-Some.ensures.items
    ∙ map-append (λ x. written x.now) c.pop.new.self.items (c.in-Some.expr ∷ []) in
    let pushed : after ≡ below ++ parts e = c.in-Ok.ensures in
    let given : from_last whole ≡ e ∷ from_last after = ap from_last popped ∙ visited e below
    ∙ ap (λ ts. e ∷ from_last ts) (sym pushed) in (
      running,
      running,
      ap (λ b. cond b [] (from_last whole)) running ∙ given ∙ ap (λ b. e ∷ cond b [] (from_last after)) (sym running),
    )

pub returns-in-Ok-clause-goes : goal.returns-in-Ok-clause-goes
returns-in-Ok-clause-goes g c =
    let steps = returns-in-Ok-clause-steps g c in record {
      on = λ _. (tt, tt, fewer_calls expressions_left has_ended c.args.self.now _ (written c.in-Some.expr.now) steps.0 steps.1 steps.2);
      keeps = tt;
      rests = λ _. tt;
    }
