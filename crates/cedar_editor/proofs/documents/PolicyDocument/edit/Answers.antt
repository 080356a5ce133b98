use Rattle.std.proofs.Common.{◌≡◌, ℕ, List, [], ◌∷◌, Some, string_bytes, sym, refl, subst}
use Rattle.std.proofs.lemmas.Result.{IfOk-weaker}
use Rattle.cedar_editor.specs.declared.edits.Edit.{Edit}
use Rattle.cedar_editor.specs.Edits.{AreEdited, IsSpliced}
use Rattle.cedar_editor.proofs.MadeEdits.{edited_at}
use Rattle.cedar_editor.proofs.documents.PolicyDocument.edit.Goals as goal

pub returns-in-Some-clause-text : goal.returns-in-Some-clause-text
returns-in-Some-clause-text g c =
    let old : List ℕ = string_bytes c.args.self.now.text in
    let given : List ℕ = c.in-Some.text.now in
    let new : List ℕ = string_bytes c.change.new.self.text in
    let only : c.args.edits.now ≡ record { range = Some c.in-Some.range; text = c.in-Some.text } ∷ [] = c.in-Some.ensures in
    IfOk-weaker c.change.result (λ (_ : Unit {0}). IsSpliced old c.place_of-place.result given new)
    (λ (_ : Unit {0}). AreEdited old c.args.edits.now new)
    (λ _ made. subst (λ (es : List Edit). AreEdited old es new) (sym only) (
      new,
      edited_at old c.place_of-place.result given new c.in-Some.range c.args.self.now.lines.starts.items
          c.args.self.now.lines_of_text (rw c.text.ensures at c.place_of-place.ensures) made,
      refl,
    ))
    c.change.ensures.text
