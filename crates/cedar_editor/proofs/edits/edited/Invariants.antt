use Rattle.std.proofs.Common.{take}
use Rattle.cedar_editor.specs.Drafts.{parts_text}
use Rattle.cedar_editor.specs.Edits.{AreEdited}
use Rattle.cedar_editor.proofs.edits.edited.Given as goal

-- the edits so far are made
abbrev pub invariant-loop-edit : goal.invariant-loop-edit
invariant-loop-edit l =
    AreEdited l.text (take l.edit-index l.edits)
    (parts_text l.draft.front l.draft.middle l.draft.behind)
