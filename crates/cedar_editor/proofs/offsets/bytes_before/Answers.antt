use Rattle.std.proofs.Common.{◌∙◌, ◌<◌, get_or, sym, arith}
use Rattle.cedar_editor.specs.Units.{weight}
use Rattle.cedar_editor.proofs.Units.{only_boundary}
use Rattle.cedar_editor.proofs.offsets.bytes_before.Goals as goal

pub returns-then-left-weight-clause-back : goal.returns-then-left-weight-clause-back
returns-then-left-weight-clause-back c = λ n boundary e.
    let more : c.loop-at.left < weight (get_or c.args.bytes.now c.loop-at.at 0) = omega (arith, c.weight_of-weight.ensures) in
    only_boundary c.args.bytes.now c.loop-at.at n c.loop-at.left boundary (c.loop-at.invariant ∙ sym e) c.loop-at-test.true more
