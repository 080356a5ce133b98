-- The first line of a text.
use Rattle.std.proofs.Common.{◌≡◌, ◌∙◌, ℕ, ◌+◌, ◌<◌, ◌≤◌, zero, suc, Bool, true, false, not, cond, List, [], ◌∷◌, All, length, take, get_or, refl, sym, ap, arith}
use Rattle.std.specs.List.{position_or_len}

-- the first place at which a test passes is the one before which it fails, and at which it passes if it is not the end
pub first_at : (p : ℕ → Bool) (xs : List ℕ) (n : ℕ) → n ≤ length xs → All (λ (x : ℕ). p x ≡ false) (take n xs)
    → (n < length xs → p (get_or xs n 0) ≡ true) → n ≡ position_or_len p xs
first_at p [] zero within before stops = refl
first_at p [] (suc n) within before stops = absurd (omega arith)
first_at p (x ∷ xs) zero within before stops =
    let here : p x ≡ true = stops (omega arith) in
    sym (ap (λ (b : Bool). cond (not b) (1 + position_or_len p xs) 0) here)
first_at p (x ∷ xs) (suc n) within before stops =
    let here : p x ≡ false = before 0 0 (omega arith) in
    let rest : n ≡ position_or_len p xs =
    first_at p xs n (omega arith) (λ k d below. before (suc k) d (omega arith)) (λ below. stops (omega arith)) in
    let next : suc n ≡ 1 + position_or_len p xs = omega (arith, rest) in
    next ∙ sym (ap (λ (b : Bool). cond (not b) (1 + position_or_len p xs) 0) here)
