use Rattle.std.proofs.Common.{◌≡◌, ◌∙◌, ℕ, ◌+◌, ◌-◌, List, drop, length, sym, ap, arith}
use Rattle.cedar_editor.proofs.MadeEdits.{alike_before}
use Rattle.cedar_editor.proofs.edits.shared_back.Goals as goal

pub loop-left-preserved : goal.loop-left-preserved
loop-left-preserved c =
    let one : List ℕ = c.args.one.now in
    let two : List ℕ = c.args.two.now in
    let i : ℕ = length one - c.args.most + (c.loop-left.left - 2048) in
    let j : ℕ = length two - c.args.most + (c.loop-left.left - 2048) in
    let k : i + 2048 ≡ length one - c.args.most + c.loop-left.left = omega (arith, c.loop-left-test.true) in
    let l : j + 2048 ≡ length two - c.args.most + c.loop-left.left = omega (arith, c.loop-left-test.true) in (
      omega (arith, c.loop-left.invariant.0),
      alike_before one two i j (i + 2048) (j + 2048) (omega arith) (omega arith) (omega arith)
          (c.are_alike.ensures c.if-are_alike.true)
          (ap (λ (n : ℕ). drop n one) k ∙ (c.loop-left.invariant.1 ∙ ap (λ (n : ℕ). drop n two) (sym l))),
    )
