-- Declared types: the types in which entities of a type may be.
use Rattle.std.proofs.Common.{◌≡◌, refl, ap, ◌∙◌, Bool, true, false, ◌&&◌, ◌||◌, cond, List, [], ◌∷◌, Option, Some, None, is_some}
use Rattle.std.specs.List.{list_any, find}
use Rattle.cedar_types.specs.Names.{Path, Uid, path_eq}
use Rattle.cedar_types.specs.Schemas.{DeclaredType, is_among, type_named, type_descendants}
use Rattle.cedar_conformance.specs.StoreTests.{ancestor_fits}

-- a search finds an element iff some element passes
pub found_some : {X : Type 0} (p : X → Bool) (xs : List X) → is_some (find p xs) ≡ list_any p xs
found_some p [] = refl
found_some p (x ∷ xs) = at (p x) (found_some p xs)
  where
    at : (b : Bool) → is_some (find p xs) ≡ list_any p xs → is_some (cond b (Some x) (find p xs)) ≡ (b || list_any p xs)
    at true h = refl
    at false h = h

-- a type that has descendants is declared
none_below : (o : Option DeclaredType) (p : Path) → is_among (type_descendants o) p ≡ (is_some o && is_among (type_descendants o) p)
none_below None p = refl
none_below (Some t) p = refl

-- an ancestor fits iff its type's declaration has the type as a descendant
pub fits_by_descendants : (ts : List DeclaredType) (p : Path) (v : Uid)
    → is_among (type_descendants (type_named ts v.entity_type)) p ≡ ancestor_fits ts p v
fits_by_descendants ts p v =
    none_below (type_named ts v.entity_type) p
    ∙ ap (λ b. b && is_among (type_descendants (type_named ts v.entity_type)) p)
    (found_some (λ t. path_eq v.entity_type t.name) ts)
