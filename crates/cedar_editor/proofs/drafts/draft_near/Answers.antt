use Rattle.std.proofs.Common.{◌≡◌, ◌∙◌, ℕ, List, Some, string_bytes, sym, subst}
use Rattle.std.proofs.lemmas.Result.{IfOk-weaker}
use Rattle.cedar_editor.specs.Drafts.{parts_text}
use Rattle.cedar_editor.specs.Edits.{is_edited}
use Rattle.cedar_editor.proofs.MadeEdits.{edited_at}
use Rattle.cedar_editor.proofs.drafts.draft_near.Goals as goal

pub returns : goal.returns
returns c =
    let old : List ℕ = c.args.old.now in
    let given : List ℕ = c.args.text.now in
    let made : is_edited old (Some c.args.range) given (string_bytes c.in_ok-new.new) =
    edited_at old c.place_of-place.result given (string_bytes c.in_ok-new.new) c.args.range c.in_ok-lines.lines.starts.items
    c.in_ok-lines.ensures c.place_of-place.ensures c.in_ok-new.ensures in
    IfOk-weaker c.new-2.result
    (λ draft. parts_text draft.front draft.middle draft.behind ≡ c.as_str.result.now)
    (λ draft.
    is_edited old (Some c.args.range) given
    (parts_text draft.front draft.middle draft.behind))
    (λ draft is.
    subst (λ (text : List ℕ). is_edited old (Some c.args.range) given text) (sym (is ∙ c.as_str.ensures.value)) made)
    c.new-2.ensures
