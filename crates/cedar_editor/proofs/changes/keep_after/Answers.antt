use Rattle.std.proofs.Common.{◌∙◌, ℕ, map, ap}
use Rattle.cedar_editor.specs.declared.checks.CheckedPolicy.{CheckedPolicy}
use Rattle.cedar_editor.specs.Documents.{moved_policy, placed_policy}
use Rattle.cedar_editor.specs.Lines.{moved_byte}
use Rattle.cedar_editor.proofs.Kept.{one_kept}
use Rattle.cedar_editor.proofs.changes.keep_after.Goals as goal

pub loop-placed-preserved : goal.loop-placed-preserved
loop-placed-preserved c =
    let copied = c.in_ok-clone.field-0.value in
    one_kept (moved_policy c.args.old_end c.args.new_end) _ c.loop-placed.policies.items c.push.new.self.items
    (map placed_policy c.args.policies.now.items) c.loop-placed.placed-index c.placed-item.result _ c.loop-placed-test.true
    c.placed-item.is c.in_ok-push.ensures.items
    (ap (λ (start : ℕ). (start, copied)) c.moved.ensures
    ∙ ap (λ (policy : CheckedPolicy). (moved_byte c.args.old_end c.args.new_end c.placed-item.result.start, policy)) c.in_ok-clone.ensures.cases)
    c.loop-placed.invariant
