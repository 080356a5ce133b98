use Rattle.std.proofs.Common.{arith}
use Rattle.cedar_editor.specs.Documents.{BeginsBehind}
use Rattle.cedar_editor.proofs.Kept.{fewer_behind}
use Rattle.cedar_editor.proofs.changes.read_touched.Goals as goal

pub loop-init : goal.loop-init
loop-init c = (
  omega (arith, c.behind_fault-last.type_inv),
  fewer_behind (BeginsBehind c.args.place.end) c.args.old.now c.last_touched.result c.behind_fault-last.result
      (omega (arith, c.max-least.ensures, c.behind_fault-last.ensures)) c.last_touched.ensures,
)

pub loop-preserved : goal.loop-preserved
loop-preserved c = (
  omega (arith, c.saturating_add-last.type_inv),
  fewer_behind (BeginsBehind c.args.place.end) c.args.old.now c.loop.last c.saturating_add-last.result
      (omega (arith, c.saturating_add-last.ensures, c.loop.invariant.0)) c.loop.invariant.1,
)
