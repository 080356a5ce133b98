-- Items of a list that a loop goes over.
use Rattle.std.proofs.Common.{◌≡◌, ℕ, suc, ◌+◌, ◌<◌, List, ◌∷◌, length, get_or, drop, add-one, drop-cons, ap, sym}

-- The remaining items from an index on are its item and the items after it
pub next_item : {A : Type 0} (xs : List A) (i : ℕ) (x : A) → i < length xs → x ≡ get_or xs i x → drop i xs ≡ x ∷ drop (i + 1) xs
next_item xs i x h k = rw (add-one, drop-cons xs i x) (ap (λ y. y ∷ drop (suc i) xs) (sym k))
