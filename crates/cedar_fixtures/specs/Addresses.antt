-- The meaning of the check of `ip`.
use Rattle.std.specs.Prelude.{Bool, true, false, List, [], ◌∷◌, Option, Some, None, codes, if◌then◌else◌}
use Rattle.cedar_types.specs.Names.{Text}
use Rattle.cedar_types.specs.Expressions.Tree.{Tree, lit, string}
use Rattle.cedar_types.specs.Expressions.View.{Written}

-- the empty string literal
abbrev pub is_empty_text : Tree Written → Bool
is_empty_text (lit w (string [])) = true
is_empty_text e = false

-- the first argument is the empty string literal
abbrev pub begins_with_empty_text : List (Tree Written) → Bool
begins_with_empty_text [] = false
begins_with_empty_text (e ∷ es) = is_empty_text e

-- the message with which arguments are refused, if they are
abbrev pub address_refusal : List (Tree Written) → Option Text
address_refusal es = if begins_with_empty_text es then Some (codes "empty address") else None
