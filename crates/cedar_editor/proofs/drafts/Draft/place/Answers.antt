use Rattle.std.proofs.Common.{◌≡◌, ◌∙◌, ℕ, ◌+◌, ◌<◌, ◌≤◌, List, length, string_bytes, ap, subst}
use Rattle.cedar_editor.specs.Lines.{line_starts, IsPositionOf}
use Rattle.cedar_editor.specs.Units.{IsBoundary}
use Rattle.cedar_editor.specs.declared.lines.Position.{Position}
use Rattle.cedar_editor.proofs.Zoom.{edited_inside}
use Rattle.cedar_editor.proofs.drafts.Draft.place.Goals as goal

pub returns-then-place-len-clause-edited : goal.returns-then-place-len-clause-edited
returns-then-place-len-clause-edited c = λ given.
    let middle : List ℕ = string_bytes c.args.self.now.middle in
    let first : Position = c.in_ok-inside.field-0 in
    let last : Position = c.in_ok-inside-2.field-0 in
    let Found : List ℕ → List ℕ → Type 0 = λ text starts.
    (start end : ℕ) → start ≤ end → IsBoundary text start → IsBoundary text end → IsPositionOf starts text start first
    → IsPositionOf starts text end last → (c.place_of-place.result.start ≡ start) × (c.place_of-place.result.end ≡ end) in
    let found : Found middle (line_starts middle) =
    subst (λ (starts : List ℕ). Found middle starts) c.args.self.now.lines_of_middle
    (subst (λ (text : List ℕ). Found text c.args.self.now.lines.starts.items) c.as_str.ensures.value c.place_of-place.ensures) in
    edited_inside (string_bytes c.args.self.now.front) middle (string_bytes c.args.self.now.behind) given c.args.self.now.front_ended
    c.args.self.now.middle_ended c.place_of-place.result c.args.range (record { start = first; end = last })
    (c.in_ok-inside.ensures.line ∙ ap (λ (n : ℕ). n + first.line) c.args.self.now.counted) c.in_ok-inside.ensures.unit
    (subst (λ (starts : List ℕ). first.line < length starts) c.args.self.now.lines_of_middle c.in_ok-inside.ensures.declared)
    (c.in_ok-inside-2.ensures.line ∙ ap (λ (n : ℕ). n + last.line) c.args.self.now.counted) c.in_ok-inside-2.ensures.unit
    (subst (λ (starts : List ℕ). last.line < length starts) c.args.self.now.lines_of_middle c.in_ok-inside-2.ensures.declared) found
