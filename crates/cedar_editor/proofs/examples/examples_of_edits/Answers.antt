use Rattle.std.proofs.Common.{◌≡◌, ◌∙◌, ℕ, List, [], ◌∷◌, Option, Some, codes, refl, subst, arith}
use Rattle.cedar_editor.specs.Edits.{is_edited}
use Rattle.cedar_editor.specs.EditExamples.{in_line, Puts}
use Rattle.cedar_editor.specs.Lines.{line_starts, IsPositionOf}
use Rattle.cedar_editor.specs.Units.{IsBoundary}
use Rattle.cedar_editor.specs.declared.edits.Edit.{Edit}
use Rattle.cedar_editor.specs.declared.lines.Range.{Range}
use Rattle.cedar_editor.proofs.examples.examples_of_edits.Goals as goal

-- `a`, `\r\n`, `é` and `b`
abbrev accented : List ℕ
accented = 97 ∷ 13 ∷ 10 ∷ 195 ∷ 169 ∷ 98 ∷ []

put : (old new : List ℕ) (e : Edit) (range : Range) (text : List ℕ) → Puts e range text → is_edited old e.range e.text.now new
    → is_edited old (Some range) text new
put old new e range text puts made =
    subst (λ (r : Option Range). is_edited old r text new) puts.range_is
    (subst (λ (t : List ℕ). is_edited old e.range t new) puts.text_is made)

pub returns : goal.returns
returns c = record {
  line_feed = refl;
  carriage_return = refl;
  both = refl;
  backwards = refl;
  last = refl;
  empty = refl;
  inserted = λ new made.
      let edge : IsBoundary (codes "a\nbc") 3 = record { within = omega arith; begins = λ less. omega arith } in
      let is : IsPositionOf (line_starts (codes "a\nbc")) (codes "a\nbc") 3 (record { line = 1; unit = 1 }) =
      record { declared = omega arith; begun = omega arith; over = λ less. absurd (omega arith); unit = refl } in
      made 3 3 (omega arith) edge edge is is;
  replaced = λ new made.
      let first : IsPositionOf (line_starts accented) accented 3 (record { line = 1; unit = 0 }) =
      record { declared = omega arith; begun = omega arith; over = λ less. absurd (omega arith); unit = refl } in
      let last : IsPositionOf (line_starts accented) accented 5 (record { line = 1; unit = 1 }) =
      record { declared = omega arith; begun = omega arith; over = λ less. absurd (omega arith); unit = refl } in
      made 3 5 (omega arith) (record { within = omega arith; begins = λ less. omega arith })
      (record { within = omega arith; begins = λ less. omega arith }) first last;
  whole = λ new made. made;
  in_turn = λ first second new puts_first puts_second made.
      let start : IsPositionOf (line_starts (codes "ab")) (codes "ab") 0 (record { line = 0; unit = 0 }) =
      record { declared = omega arith; begun = omega arith; over = λ less. absurd (omega arith); unit = refl } in
      let end : IsPositionOf (line_starts (codes "ab")) (codes "ab") 1 (record { line = 0; unit = 1 }) =
      record { declared = omega arith; begun = omega arith; over = λ less. absurd (omega arith); unit = refl } in
      let between : made.0 ≡ codes "xyb" =
      put (codes "ab") made.0 first (in_line 0 0 1) (codes "xy") puts_first made.1 0 1 (omega arith)
      (record { within = omega arith; begins = λ less. omega arith }) (record { within = omega arith; begins = λ less. omega arith })
      start end in
      let then : is_edited (codes "xyb") (Some (in_line 0 1 2)) [] made.2.0 =
      subst (λ (t : List ℕ). is_edited t (Some (in_line 0 1 2)) [] made.2.0) between
      (put made.0 made.2.0 second (in_line 0 1 2) [] puts_second made.2.1) in
      let from : IsPositionOf (line_starts (codes "xyb")) (codes "xyb") 1 (record { line = 0; unit = 1 }) =
      record { declared = omega arith; begun = omega arith; over = λ less. absurd (omega arith); unit = refl } in
      let to : IsPositionOf (line_starts (codes "xyb")) (codes "xyb") 2 (record { line = 0; unit = 2 }) =
      record { declared = omega arith; begun = omega arith; over = λ less. absurd (omega arith); unit = refl } in
      made.2.2
      ∙ then 1 2 (omega arith) (record { within = omega arith; begins = λ less. omega arith })
      (record { within = omega arith; begins = λ less. omega arith }) from to;
}
