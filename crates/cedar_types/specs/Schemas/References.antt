-- The sets of one entity type alone that a schema holds.
use Rattle.std.specs.Prelude.{◌≡◌, Bool, true, List, [], ◌∷◌, Option, Some, None}
use Rattle.std.specs.Cmp.Lexicographic.{pointwise}
use Rattle.std.specs.Map.{lookup}
use Rattle.cedar_types.specs.Names.{Path, type_of, path_eq}
use Rattle.cedar_types.specs.Types.{lub_of}
use Rattle.cedar_types.specs.declared.base.names.entities.EntityType.{EntityType}
use Rattle.cedar_types.specs.declared.base.types.entity_sets.EntityLUB.{EntityLUB}

-- the set that some entries give for a name
abbrev pub set_named : List (EntityType × EntityLUB) → Path → Option EntityLUB
set_named es p = lookup (λ k. path_eq p (type_of k)) es

-- the set found for a name, if there is one, is the set of it alone
abbrev pub is_own : Path → Option EntityLUB → Bool
is_own p None = true
is_own p (Some s) = pointwise path_eq (lub_of s) (p ∷ [])

abbrev pub HasOwnSets : List (EntityType × EntityLUB) → Type 0
HasOwnSets es = (q : EntityType) → is_own (type_of q) (set_named es (type_of q)) ≡ true
