-- Lists: tests of all elements, in any order.
use Rattle.std.proofs.Common.{◌≡◌, refl, sym, ap, ◌∙◌, Bool, true, false, ◌&&◌, ◌||◌, not, List, [], ◌∷◌}
use Rattle.std.specs.Prelude.{IsPermutation}
use Rattle.std.specs.List.{list_any, list_all}
use Rattle.std.proofs.lemmas.List.Sorted.{list_any-IsPermutation}
use Rattle.cedar_types.proofs.Tests.{Within, and_both}

-- all elements pass iff none fails
none_fails : {X : Type 0} (p : X → Bool) (xs : List X) → list_all p xs ≡ not (list_any (λ x. not (p x)) xs)
none_fails p [] = refl
none_fails p (x ∷ xs) = at (p x) (none_fails p xs)
  where
    at : (b : Bool) → list_all p xs ≡ not (list_any (λ y. not (p y)) xs)
        → (b && list_all p xs) ≡ not (not b || list_any (λ y. not (p y)) xs)
    at true h = h
    at false h = refl

-- the order of a list does not change whether all its elements pass
pub all_moved : {X : Type 0} (p : X → Bool) (xs ys : List X) → IsPermutation xs ys → list_all p xs ≡ list_all p ys
all_moved p xs ys h =
    none_fails p xs ∙ ap not (list_any-IsPermutation (λ x. not (p x)) xs ys h) ∙ sym (none_fails p ys)

-- all elements pass if each one within the list passes
pub all_within : {X : Type 0} (p : X → Bool) (xs : List X) → ((x : X) → Within x xs → p x ≡ true) → list_all p xs ≡ true
all_within p [] h = refl
all_within p (x ∷ xs) h =
    and_both (p x) (list_all p xs)
    (h x (record { passes = λ q t. ap (λ b. b || list_any q xs) t }))
    (all_within p xs (λ y w. h y (record { passes = λ q t. later (q x) (list_any q xs) (w.passes q t) })))
  where
    later : (a b : Bool) → b ≡ true → (a || b) ≡ true
    later true b h = refl
    later false b h = h
