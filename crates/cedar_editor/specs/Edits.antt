-- Changes of texts, as an editor sends them.
use Rattle.std.specs.Prelude.{◌≡◌, ℕ, ◌≤◌, List, [], ◌∷◌, ◌++◌, length, Option, Some, None, take, drop}
use Rattle.cedar_editor.specs.Lines.{line_starts, IsPositionOf}
use Rattle.cedar_editor.specs.Units.{IsBoundary}
use Rattle.cedar_types.specs.declared.base.location.Loc.{Loc}
use Rattle.cedar_editor.specs.declared.edits.Edit.{Edit}
use Rattle.cedar_editor.specs.declared.lines.Range.{Range}

-- the text with another text in place of the part from one byte to another
abbrev pub spliced_text : List ℕ → ℕ → ℕ → List ℕ → List ℕ
spliced_text text start end inserted = take start text ++ (inserted ++ drop end text)

-- a place is a part of a text: it begins and ends between characters, and does not end before it begins
pub record IsPart (text : List ℕ) (place : Loc) : Type 0 where
  pub ordered : place.start ≤ place.end
  pub begun : IsBoundary text place.start
  pub ended : IsBoundary text place.end

-- a text has another one in place of a part; if the place is no part of it, the text stays
pub record IsSpliced (old : List ℕ) (place : Loc) (inserted new : List ℕ) : Type 0 where
  pub part : IsPart old place → new ≡ spliced_text old place.start place.end inserted
  pub none : (IsPart old place → ⊥) → new ≡ old

-- a text is another one with a part of it changed: all before the place and all behind it stays, and so many bytes stand between
pub record IsChange (old : List ℕ) (place : Loc) (size : ℕ) (new : List ℕ) : Type 0 where
  pub ordered : place.start ≤ place.end
  pub within : place.end ≤ length old
  pub inserted : List ℕ
  pub counted : size ≡ length inserted
  pub spliced : new ≡ spliced_text old place.start place.end inserted

-- one edit of a text: without a range it is the whole new text, else it takes the place of the part from the byte at which the
-- range begins to the byte at which it ends; nothing is claimed of a range that goes backwards, or that begins or ends inside a
-- character or behind a line
abbrev pub is_edited : List ℕ → Option Range → List ℕ → List ℕ → Type 0
is_edited old None text new = new ≡ text
is_edited old (Some range) text new =
    (start end : ℕ) → start ≤ end → IsBoundary old start → IsBoundary old end → IsPositionOf (line_starts old) old start range.start
    → IsPositionOf (line_starts old) old end range.end → new ≡ spliced_text old start end text

-- edits of a text, one after another
abbrev pub AreEdited : List ℕ → List Edit → List ℕ → Type 0
AreEdited old [] new = new ≡ old
AreEdited old (e ∷ es) new = (between : List ℕ) × is_edited old e.range e.text.now between × AreEdited between es new
