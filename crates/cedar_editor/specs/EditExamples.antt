-- Lines of texts, and texts after edits.
use Rattle.std.specs.Prelude.{◌≡◌, ℕ, List, [], ◌∷◌, Some, None, codes}
use Rattle.cedar_editor.specs.Edits.{is_edited, AreEdited}
use Rattle.cedar_editor.specs.Lines.{line_starts}
use Rattle.cedar_editor.specs.declared.edits.Edit.{Edit}
use Rattle.cedar_editor.specs.declared.lines.Range.{Range}

-- the range from one unit of a line to another unit of the line
abbrev pub in_line : ℕ → ℕ → ℕ → Range
in_line line start end = record { start = record { line = line; unit = start }; end = record { line = line; unit = end } }

-- an edit puts a text in place of a range
pub record Puts (edit : Edit) (range : Range) (text : List ℕ) : Type 0 where
  pub range_is : edit.range ≡ Some range
  pub text_is : edit.text.now ≡ text

-- where lines begin, and which texts edits make; `\r\n` is one end of a line, and `é` has two bytes and one unit
pub record EditExamples : Type 0 where
  pub line_feed : line_starts (codes "a\nb") ≡ 2 ∷ []
  pub carriage_return : line_starts (codes "a\rb") ≡ 2 ∷ []
  pub both : line_starts (codes "a\r\nb") ≡ 3 ∷ []
  pub backwards : line_starts (codes "a\n\rb") ≡ 2 ∷ 3 ∷ []
  pub last : line_starts (codes "a\n") ≡ 2 ∷ []
  pub empty : line_starts [] ≡ []
  pub inserted : (new : List ℕ) → is_edited (codes "a\nbc") (Some (in_line 1 1 1)) (codes "x") new → new ≡ codes "a\nbxc"
  pub replaced : (new : List ℕ) → is_edited (97 ∷ 13 ∷ 10 ∷ 195 ∷ 169 ∷ 98 ∷ []) (Some (in_line 1 0 1)) (codes "x") new
      → new ≡ codes "a\r\nxb"
  pub whole : (new : List ℕ) → is_edited (codes "ab") None (codes "x") new → new ≡ codes "x"
  pub in_turn : (first second : Edit) (new : List ℕ) → Puts first (in_line 0 0 1) (codes "xy") → Puts second (in_line 0 1 2) []
      → AreEdited (codes "ab") (first ∷ second ∷ []) new → new ≡ codes "xb"
