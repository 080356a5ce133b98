-- Ids of the policies of a document.
use Rattle.std.specs.Prelude.{ℕ, ◌+◌, Bool, true, false, List, [], ◌∷◌, ◌++◌, ◌*◌, ◌%◌, bit_xor, codes, fold, get_or, take}
use Rattle.std.specs.Fmt.{decimal}
use Rattle.std.specs.List.{list_any}
use Rattle.cedar_types.specs.Names.{Text, text_eq, text_of}
use Rattle.cedar_editor.specs.declared.checks.CheckedPolicy.{CheckedPolicy}
use Rattle.cedar_editor.specs.declared.documents.PlacedPolicy.{PlacedPolicy}

-- the id that the text of a policy names, or else `policy` and the number of policies before it
abbrev pub id_if_named : Bool → ℕ → CheckedPolicy → Text
id_if_named true n p = text_of p.template.id.text
id_if_named false n p = codes "policy" ++ decimal n

-- the id of a policy before which so many stand
abbrev pub id_of : ℕ → CheckedPolicy → Text
id_of n p = id_if_named p.names_itself n p

-- the ids of policies, before the first of which so many stand
abbrev pub ids_from : ℕ → List PlacedPolicy → List Text
ids_from n [] = []
ids_from n (p ∷ ps) = id_of n p.policy.value ∷ ids_from (n + 1) ps

-- the policy with this number has the id of one before it
abbrev pub has_earlier_id : List PlacedPolicy → ℕ → Bool
has_earlier_id ps k = list_any (text_eq (get_or (ids_from 0 ps) k [])) (take k (ids_from 0 ps))

-- the sum of a text by the method of Fowler, Noll and Vo (FNV-1a)
abbrev pub sum_of : Text → ℕ
sum_of t = fold (λ sum byte. bit_xor sum byte * 1099511628211 % 18446744073709551616) 14695981039346656037 t
