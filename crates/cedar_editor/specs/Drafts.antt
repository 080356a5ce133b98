-- Drafts: texts in three parts, while several edits change them.
use Rattle.std.specs.Prelude.{◌≡◌, ℕ, ◌-◌, ◌<◌, List, ◌++◌, length, slice_index, string_bytes}
use Rattle.std.specs.declared.alloc.Global.{Global}
use Rattle.std.specs.declared.string.String.{String}
use Rattle.cedar_editor.specs.Edits.{spliced_text}
use Rattle.cedar_types.specs.declared.base.location.Loc.{Loc}

-- a text is empty, or ends with a line feed
abbrev pub IsEnded : List ℕ → Type 0
IsEnded bytes = 0 < length bytes → slice_index bytes (length bytes - 1) ≡ 10

-- the text of three parts
abbrev pub parts_text : String Global → String Global → String Global → List ℕ
parts_text front middle behind = string_bytes front ++ (string_bytes middle ++ string_bytes behind)

-- the text of three parts with another text in a place of the middle part
abbrev pub parts_edited : String Global → String Global → String Global → Loc → List ℕ → List ℕ
parts_edited front middle behind place given =
    string_bytes front ++ (spliced_text (string_bytes middle) place.start place.end given ++ string_bytes behind)
