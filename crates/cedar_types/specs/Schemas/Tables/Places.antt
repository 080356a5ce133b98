-- The place of a declaration among others, by its name.
use Rattle.std.specs.Prelude.{◌≡◌, ℕ, suc, Bool, List, [], ◌∷◌, Option, Some, None, option_map, if◌then◌else◌}
use Rattle.std.specs.List.{list_any, find}
use Rattle.std.specs.Map.{lookup}
use Rattle.cedar_types.specs.Schemas.{has_repeat}

-- the place of the first element that passes
abbrev pub place_in : {X : Type 0} → (X → Bool) → List X → Option ℕ
place_in p [] = None
place_in p (x ∷ xs) = if p x then Some 0 else option_map suc (place_in p xs)

-- the first of some declarations that has the name k
abbrev pub found_by_name : {X K : Type 0} → (K → K → Bool) → (X → K) → List X → K → Option X
found_by_name same name xs k = find (λ x. same k (name x)) xs

-- one of some declarations has the name k
abbrev pub declares_name : {X K : Type 0} → (K → K → Bool) → (X → K) → List X → K → Bool
declares_name same name xs k = list_any (λ x. same k (name x)) xs

-- two of some declarations have one name
abbrev pub repeats_name : {X K : Type 0} → (K → K → Bool) → (X → K) → List X → Bool
repeats_name same name xs = has_repeat (λ x y. same (name x) (name y)) xs

-- the place that some entries give for a name
abbrev pub place_of : {N K : Type 0} → (K → K → Bool) → (N → K) → List (N × ℕ) → K → Option ℕ
place_of same key es k = lookup (λ n. same k (key n)) es

-- the entries give each name the place of its declaration
abbrev pub IsIndex : {N K X : Type 0} → (K → K → Bool) → (N → K) → (X → K) → List (N × ℕ) → List X
    → Type 0
IsIndex {N = N} same key name es xs =
    (q : N) → place_of same key es (key q) ≡ place_in (λ x. same (key q) (name x)) xs
