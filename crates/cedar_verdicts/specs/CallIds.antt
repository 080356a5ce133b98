-- Ids that policies of several files have, each with the number of the first file that has it.
use Rattle.std.specs.Prelude.{ℕ, Bool, true, false, not, Option, Some, None, option_map}
use Rattle.std.specs.Bool.{◌==◌}
use Rattle.std.specs.Map.{lookup}
use Rattle.cedar_types.specs.Names.{Text, text_of, text_eq}
use Rattle.cedar_verdicts.specs.declared.call_ids.CallIds.{CallIds}

-- the number of the first file that has an id, if one has
abbrev pub file_of : CallIds → Text → Option ℕ
file_of ids t = option_map (λ f. f.number) (lookup (λ id. text_eq t (text_of id)) ids.files.entries)

abbrev pub is_other : ℕ → Option ℕ → Bool
is_other number None = false
is_other number (Some first) = not (first == number)

-- another file is the first that has the id
abbrev pub has_other : CallIds → Text → Bool
has_other ids id = is_other ids.number (file_of ids id)

abbrev pub first_of : ℕ → Bool → Option ℕ → Option ℕ
first_of number true None = Some number
first_of number true (Some first) = Some first
first_of number false first = first

-- the first file that has an id, once a policy of this file has this one
abbrev pub number_after : CallIds → Text → Text → Option ℕ
number_after ids id t = first_of ids.number (text_eq t id) (file_of ids t)
