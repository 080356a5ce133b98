use Rattle.std.proofs.Common.{◌-◌, subst, arith}
use Rattle.std.proofs.lemmas.List.Elements.{All-more}
use Rattle.cedar_editor.specs.Documents.{EndsBy}
use Rattle.cedar_editor.proofs.Kept.{fewer_before}
use Rattle.cedar_editor.proofs.changes.first_touched.Goals as goal

pub loop-first-preserved : goal.loop-first-preserved
loop-first-preserved c = (
  omega (arith, c.loop-first-test.true),
  All-more (EndsBy c.args.byte) c.args.old.now c.loop-first.first c.index-old-first.result c.loop-first-test.true c.loop-first.invariant.1
      (subst (EndsBy c.args.byte) c.index-old-first.is (c.ends_by.ensures.0 c.if-ends_by.true)),
)

pub loop-first-2-preserved : goal.loop-first-2-preserved
loop-first-2-preserved c = (
  omega (arith, c.loop-first-2.invariant.0),
  fewer_before (EndsBy c.args.byte) c.args.old.now (c.loop-first-2.first - 1) c.loop-first-2.first (omega arith) c.loop-first-2.invariant.1,
)
