-- Digits of a number that was read.
use Rattle.std.proofs.Common.{◌≡◌, ◌≢◌, ◌∙◌, ℕ, ◌+◌, ◌-◌, ◌<◌, ◌≤◌, Bool, true, false, cond, List, ◌∷◌, length, drop, refl, sym, ap, subst, arith, IsTrue}
use Rattle.std.specs.Prelude.{slice_range, slice_index, ◌==◌}
use Rattle.std.specs.Int.{IsInRange}
use Rattle.std.specs.Str.Parse.{without_leading_sign}
use Rattle.std.proofs.lemmas.Bool.Decides.{nat_tests}
use Rattle.cedar_json.specs.Numbers.{IsDecimal}
use Rattle.cedar_json.specs.Texts.{HasByte}
use Rattle.cedar_json.proofs.Ranges.{index_in, length_range, first}

differs : (x y : ℕ) → x ≢ y → (x == y) ≡ false
differs x y h = grind (arith, nat_tests)

unsigned : (d : ℕ) (rest : List ℕ) → 48 ≤ d → without_leading_sign (d ∷ rest) ≡ d ∷ rest
unsigned d rest h =
    ap (λ b. cond b (drop 1 (d ∷ rest)) (drop (cond (d == 43) 1 0) (d ∷ rest))) (differs d 45 (λ e. absurd (omega arith)))
    ∙ ap (λ b. drop (cond b 1 0) (d ∷ rest)) (differs d 43 (λ e. absurd (omega arith)))

no_zero : (bytes : List ℕ) (low high : ℕ) → high ≤ length bytes → low < high → (low + 1 < high → slice_index bytes low ≢ 48)
    → 1 < length (slice_range bytes low high) → slice_index (slice_range bytes low high) 0 ≢ 48
no_zero bytes low high w h z long e =
    let same : low + 0 ≡ low = omega arith in
    let at : slice_index (slice_range bytes low high) 0 ≡ slice_index bytes low = index_in bytes low high 0 (omega arith) ∙ ap (λ n. slice_index bytes n) same in
    z (omega (arith, length_range bytes low high w)) (sym at ∙ e)

minus_first : (xs : List ℕ) → (1 < length xs → slice_index xs 0 ≢ 48) → IsDecimal (45 ∷ xs)
minus_first xs z = (λ e. absurd (omega arith), z)

-- A number begins with a minus or a digit, and a zero is not the first of several digits.
pub is_decimal : (bytes : List ℕ) (is_signed : Bool) (low begin high : ℕ) → high ≤ length bytes → begin < high
    → (IsTrue is_signed → HasByte bytes low 45 × (begin ≡ low + 1)) → (is_signed ≡ false → begin ≡ low)
    → ((i : ℕ) → begin ≤ i → i < high → IsInRange 48 57 (slice_index bytes i)) → (begin + 1 < high → slice_index bytes begin ≢ 48)
    → IsDecimal (slice_range bytes low high)
is_decimal bytes true low begin high w h signed plain digits z =
    let minus = signed refl in
    let whole : slice_range bytes low high ≡ 45 ∷ slice_range bytes begin high =
    first bytes low high minus.0.0 (omega (arith, minus.1)) ∙ ap (λ b. b ∷ slice_range bytes (low + 1) high) minus.0.1
    ∙ ap (λ n. 45 ∷ slice_range bytes n high) (sym minus.1) in
    subst IsDecimal (sym whole) (minus_first (slice_range bytes begin high) (no_zero bytes begin high w h z))
is_decimal bytes false low begin high w h signed plain digits z =
    let same : low ≡ begin = sym (plain refl) in
    let d = slice_index bytes begin in
    let is_digit : IsInRange 48 57 d = digits begin (omega arith) h in
    let whole : slice_range bytes low high ≡ d ∷ slice_range bytes (begin + 1) high =
    ap (λ n. slice_range bytes n high) same ∙ first bytes begin high (omega arith) h in
    let bare : without_leading_sign (d ∷ slice_range bytes (begin + 1) high) ≡ d ∷ slice_range bytes (begin + 1) high = unsigned d (slice_range bytes (begin + 1) high) is_digit.0 in
    let zeros : 1 < length (d ∷ slice_range bytes (begin + 1) high) → slice_index (d ∷ slice_range bytes (begin + 1) high) 0 ≢ 48 =
    subst (λ xs. 1 < length xs → slice_index xs 0 ≢ 48) (first bytes begin high (omega arith) h) (no_zero bytes begin high w h z) in
    subst IsDecimal (sym whole)
    (λ e. absurd (omega (arith, is_digit.0)), subst (λ xs. 1 < length xs → slice_index xs 0 ≢ 48) (sym bare) zeros)
