-- The first keys of a list.
use Rattle.std.proofs.Common.{◌≡◌, refl, ap, ℕ, zero, suc, ◌≤◌, List, [], ◌∷◌, map, take, length, arith}

pub keys_taken : {A B : Type 0} (f : A → B) (n : ℕ) (xs : List A)
    → map f (take n xs) ≡ take n (map f xs)
keys_taken f zero xs = refl
keys_taken f (suc n) [] = refl
keys_taken f (suc n) (x ∷ xs) = ap (λ ys. f x ∷ ys) (keys_taken f n xs)

pub all_taken : {A B : Type 0} (f : A → B) (n : ℕ) (xs : List A) → length xs ≤ n
    → map f xs ≡ take n (map f xs)
all_taken f zero [] h = refl
all_taken f zero (x ∷ xs) h = absurd (omega arith)
all_taken f (suc n) [] h = refl
all_taken f (suc n) (x ∷ xs) h =
    let k : length xs ≤ n = omega arith in ap (λ ys. f x ∷ ys) (all_taken f n xs k)
