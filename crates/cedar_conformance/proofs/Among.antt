-- Lists whose elements are all among those of another.
use Rattle.std.proofs.Common.{◌≡◌, refl, ap, ◌∙◌, Bool, true, false, ◌||◌, List, ◌∷◌}
use Rattle.std.specs.Prelude.{IsPermutation}
use Rattle.std.specs.List.{list_any}
use Rattle.std.proofs.lemmas.List.Sorted.{list_any-IsPermutation}

-- if some element of xs passes a test, then some element of ys passes it
pub record IsAmong {X : Type 0} (xs ys : List X) : Type 0 where
  pub passes : (p : X → Bool) → list_any p xs ≡ true → list_any p ys ≡ true

pub among_itself : {X : Type 0} (xs : List X) → IsAmong xs xs
among_itself xs = record { passes = λ p h. h }

pub among_moved : {X : Type 0} (xs ys : List X) → IsPermutation xs ys → IsAmong ys xs
among_moved xs ys h = record { passes = λ p k. list_any-IsPermutation p xs ys h ∙ k }

pub or_right : (a b : Bool) → b ≡ true → (a || b) ≡ true
or_right true b h = refl
or_right false b h = h

pub among_tail : {X : Type 0} (x : X) (xs ys : List X) → IsAmong (x ∷ xs) ys → IsAmong xs ys
among_tail x xs ys h = record { passes = λ p k. h.passes p (or_right (p x) (list_any p xs) k) }

pub among_head : {X : Type 0} (x : X) (xs ys : List X) → IsAmong (x ∷ xs) ys → (p : X → Bool) → p x ≡ true
    → list_any p ys ≡ true
among_head x xs ys h p k = h.passes p (ap (λ b. b || list_any p xs) k)
