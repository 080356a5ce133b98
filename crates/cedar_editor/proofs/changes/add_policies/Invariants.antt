use Rattle.cedar_editor.specs.Documents.{AllStandIn, AreRightlySaidBy}
use Rattle.cedar_editor.proofs.changes.add_policies.Given as goal

-- the policies so far are rightly judged, if those at the beginning and the known ones are, and stand in the text, if those at
-- the beginning do
abbrev pub invariant-loop-place : goal.invariant-loop-place
invariant-loop-place g l =
    (AreRightlySaidBy g.C.ArgumentCheck.refusal l.fn.judge l.fn.known
    → AreRightlySaidBy g.C.ArgumentCheck.refusal l.fn.judge l.initial.policies.items
    → AreRightlySaidBy g.C.ArgumentCheck.refusal l.fn.judge l.policies.items)
    × (AllStandIn l.text l.initial.policies.items → AllStandIn l.text l.policies.items)
