-- The number of links for the slots of one environment.
use Rattle.std.proofs.Common.{◌≡◌, ◌+◌, ◌≤◌, Bool, true, false, List, [], ◌∷◌, ◌++◌, length, map, filter, refl, ap, arith, Option, Some}
use Rattle.std.proofs.lemmas.List.{length-map, length-append}
use Rattle.std.specs.Borrow.{Bor}
use Rattle.cedar_types.specs.declared.base.names.entities.EntityType.{EntityType}
use Rattle.cedar_types.specs.Environments.Linking.{slot_links, slot_types, types_above, type_names}
use Rattle.cedar_types.specs.Environments.LinkViews.{link_of}
use Rattle.cedar_types.specs.Names.{Path}
use Rattle.cedar_types.specs.Schemas.{DeclaredType, is_among}
use Rattle.cedar_types.specs.Templates.{Scope, any, equal, within, typed, typed_within}

passing_at : {A : Type 0} (p : A → Bool) (x : A) (xs : List A) (b : Bool) → p x ≡ b
    → length (filter p xs) ≤ length xs → length (filter p (x ∷ xs)) ≤ length (x ∷ xs)
passing_at p x xs true e h = rw e (omega arith)
passing_at p x xs false e h = rw e (omega arith)

-- A filtered list is at most as long as the whole list
passing : {A : Type 0} (p : A → Bool) (xs : List A) → length (filter p xs) ≤ length xs
passing p [] = omega arith
passing p (x ∷ xs) = passing_at p x xs (p x) refl (passing p xs)

-- The types above its own, and its own, are at most one more than the declared types
types_above_few : (ts : List DeclaredType) (own : Path) → length (types_above ts own ++ (own ∷ [])) ≤ length ts + 1
types_above_few ts own =
    let above : length (types_above ts own) ≡ length (filter (λ t. is_among t.descendants own) ts) = length-map
    (filter (λ t. is_among t.descendants own) ts) (λ t. t.name) in
    let most = passing (λ t. is_among t.descendants own) ts in
    let all = length-append (types_above ts own) (own ∷ []) in
    omega arith

-- All type names are at most one more than the declared types
type_names_few : (ts : List DeclaredType) → length (type_names ts) ≤ length ts + 1
type_names_few ts = let all = length-map ts (λ t. t.name) in omega arith

-- The types of a slot are at most one more than the declared types
slot_types_few : (ts : List DeclaredType) (c : Scope) (own : Path) → length (slot_types ts c own) ≤ length ts + 1
slot_types_few ts any own = type_names_few ts
slot_types_few ts (equal r) own = omega arith
slot_types_few ts (within r) own = types_above_few ts own
slot_types_few ts (typed t) own = type_names_few ts
slot_types_few ts (typed_within t r) own = types_above_few ts own

slot_links_few : (occurs : Bool) (ts : List DeclaredType) (c : Scope) (own : Path) → length (slot_links occurs ts c own) ≤ length ts + 1
slot_links_few true ts c own =
    let all = length-map (slot_types ts c own) (λ p. Some p) in
    let few = slot_types_few ts c own in
    omega arith
slot_links_few false ts c own = omega arith

-- The links of a slot are at most one more than the declared types
pub links_few : (links : List (Option (Bor EntityType))) (occurs : Bool) (ts : List DeclaredType) (c : Scope) (own : Path)
    → map link_of links ≡ slot_links occurs ts c own → length links ≤ length ts + 1
links_few links occurs ts c own same =
    let all = length-map links link_of in
    let few = slot_links_few occurs ts c own in
    let one : length (map link_of links) ≡ length (slot_links occurs ts c own) = ap length same in
    omega arith
