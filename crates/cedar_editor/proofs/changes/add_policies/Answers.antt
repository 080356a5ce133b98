use Rattle.std.proofs.Common.{◌≡◌, string_bytes}
use Rattle.std.proofs.lemmas.List.Elements.{All-push, All-same}
use Rattle.cedar_editor.specs.Documents.{is_said_by, AreRightlySaidBy, IsSaidBy, StandsIn}
use Rattle.cedar_editor.proofs.Standing.{stands_of}
use Rattle.cedar_editor.proofs.changes.add_policies.Goals as goal

pub loop-place-preserved : goal.loop-place-preserved
loop-place-preserved g c = (
  λ known before.
      let by_text : AreRightlySaidBy g.C.ArgumentCheck.refusal c.args.judge.now c.in_ok-by_text.by_text.policies.now =
      All-same (IsSaidBy g.C.ArgumentCheck.refusal c.args.judge.now) _ _ c.in_ok-by_text.ensures known in
      let said : is_said_by g.C.ArgumentCheck.refusal c.args.judge.now c.in-Some-2.policy.value =
      rw c.in-Some-2.is at (c.in_ok-policy.ensures.right by_text) in
      All-same (IsSaidBy g.C.ArgumentCheck.refusal c.args.judge.now) c.push.new.self.items _ c.in_ok-push.ensures.items
      (All-push (IsSaidBy g.C.ArgumentCheck.refusal c.args.judge.now) c.loop-place.policies.items _
      (c.loop-place.invariant.0 known before) said),
  λ before.
      let own : string_bytes c.in-Some-2.policy.value.text ≡ c.part_at-own.result.now = rw c.in-Some-2.is at c.in_ok-policy.ensures.text in
      All-same (StandsIn c.args.text.now) c.push.new.self.items _ c.in_ok-push.ensures.items
      (All-push (StandsIn c.args.text.now) c.loop-place.policies.items _ (c.loop-place.invariant.1 before)
      (stands_of c.args.text.now c.part_at-own.result.now _ c.in-Some-2.policy.value own c.part_at-own.ensures)),
)
