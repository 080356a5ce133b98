use Rattle.std.proofs.Common.{ℕ, ◌+◌, arith}
use Rattle.cedar_editor.proofs.MadeEdits.{alike_further}
use Rattle.cedar_editor.proofs.edits.shared_front.Goals as goal

pub loop-at-preserved : goal.loop-at-preserved
loop-at-preserved c =
    let at : ℕ = c.loop-at.at in (
      omega (arith, c.loop-at-test.true),
      alike_further c.args.one.now c.args.two.now at (at + 2048) (omega arith) (c.are_alike.ensures c.if-are_alike.true)
          c.loop-at.invariant.1,
    )
