-- Texts and names in ascending order, each once.
use Rattle.std.specs.Prelude.{Bool, true, false, ◌&&◌, List, [], ◌∷◌, map}
use Rattle.std.specs.List.{list_all}
use Rattle.std.specs.Ordering.{is_lt}
use Rattle.std.specs.declared.cmp.Ordering.{Ordering}
use Rattle.cedar_types.specs.declared.base.names.entities.EntityType.{EntityType}
use Rattle.cedar_types.specs.Names.{Text, Path, type_of, text_cmp, path_cmp}

-- each member is below all that follow it
abbrev pub is_ascending : {A : Type 0} → (A → A → Ordering) → List A → Bool
is_ascending cmp [] = true
is_ascending cmp (x ∷ xs) = list_all (λ y. is_lt (cmp x y)) xs && is_ascending cmp xs

abbrev pub texts_ascending : List Text → Bool
texts_ascending ts = is_ascending text_cmp ts

abbrev pub paths_ascending : List Path → Bool
paths_ascending ps = is_ascending path_cmp ps

-- the list has at least one member
abbrev pub has_members : {A : Type 0} → List A → Bool
has_members [] = false
has_members (x ∷ xs) = true

-- the names of some entity types ascend
abbrev pub types_ascend : List EntityType → Bool
types_ascend ts = paths_ascending (map type_of ts)
