use Rattle.std.proofs.Common.{map, ap}
use Rattle.cedar_editor.specs.declared.checks.CheckedPolicy.{CheckedPolicy}
use Rattle.cedar_editor.specs.Documents.{placed_policy}
use Rattle.cedar_editor.proofs.Kept.{one_kept}
use Rattle.cedar_editor.proofs.changes.keep_before.Goals as goal

pub loop-placed-preserved : goal.loop-placed-preserved
loop-placed-preserved c =
    one_kept placed_policy _ c.loop-placed.policies.items c.push.new.self.items (map placed_policy c.args.policies.now.items)
    c.loop-placed.placed-index c.placed-item.result _ c.loop-placed-test.true c.placed-item.is c.in_ok-push.ensures.items
    (ap (λ (policy : CheckedPolicy). (c.placed-item.result.start, policy)) c.in_ok-clone.ensures.cases) c.loop-placed.invariant
