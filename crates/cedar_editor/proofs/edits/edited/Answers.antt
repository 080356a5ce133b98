use Rattle.cedar_editor.specs.Drafts.{parts_text}
use Rattle.cedar_editor.proofs.MadeEdits.{one_more_edit}
use Rattle.cedar_editor.proofs.edits.edited.Goals as goal

pub loop-edit-preserved : goal.loop-edit-preserved
loop-edit-preserved c =
    one_more_edit c.args.text.now c.args.edits.now c.loop-edit.edit-index _
    (parts_text c.loop-edit.draft.front c.loop-edit.draft.middle c.loop-edit.draft.behind) _
    c.loop-edit-test.true c.loop-edit.invariant c.in_ok-draft-2.ensures
