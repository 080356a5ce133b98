-- Rows that the program's words ask for.
use Rattle.std.specs.Prelude.{◌+◌, List, [], ◌∷◌, Option, Some, None, string_bytes, slice_range}
use Rattle.std.specs.Str.{bytes_eq}
use Rattle.std.specs.List.{position}
use Rattle.std.specs.Option.{option_map}
use Rattle.std.specs.declared.string.String.{String}
use Rattle.cedar_rows.specs.declared.rows.NamedRow.{NamedRow}

-- the rows asked for: all without a word, the first of that name with one word, and none with more
abbrev pub rows_asked : {R A : Type 0} → List (NamedRow R) → List (String A) → Option (List (NamedRow R))
rows_asked rows [] = Some rows
rows_asked rows (word ∷ []) =
    option_map (λ at. slice_range rows at (at + 1))
    (position (λ row. bytes_eq row.name.now (string_bytes word)) rows)
rows_asked rows (word ∷ next ∷ more) = None
