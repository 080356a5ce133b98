-- Escapes that were read, byte by byte.
use Rattle.std.proofs.Common.{◌≡◌, ◌∙◌, ℕ, ◌+◌, ◌-◌, ◌*◌, ◌<◌, ◌≤◌, List, [], ◌∷◌, ◌++◌, length, refl, sym, ap, subst, arith}
use Rattle.std.specs.Prelude.{slice_range, slice_index}
use Rattle.std.specs.Char.{IsScalar, digit_value}
use Rattle.cedar_json.specs.Texts.{HasByte, HasDigit, IsLetter, IsUnit, IsUnitAt, IsHigh, IsLow, paired, IsEscape, of_letter, of_unit, of_pair, EscapeStands}
use Rattle.cedar_json.proofs.Ranges.{joined, first, empty}

-- a part begins with its first byte, and the rest follows
first_to : (xs : List ℕ) (a b : ℕ) (n high : ℕ) → n ≡ a + 1 → a < high → HasByte xs a b → slice_range xs a high ≡ b ∷ slice_range xs n high
first_to xs a b n high e h here =
    first xs a high here.0 h ∙ ap (λ x. x ∷ slice_range xs (a + 1) high) here.1 ∙ ap (λ m. b ∷ slice_range xs m high) (sym e)

-- a part begins with its first two bytes, and the rest follows
two_to : (xs : List ℕ) (a b c : ℕ) (high : ℕ) → a + 2 ≤ high → HasByte xs a b → HasByte xs (a + 1) c → slice_range xs a high ≡ b ∷ c ∷ slice_range xs (a + 2) high
two_to xs a b c high h here there =
    first_to xs a b (a + 1) high refl (omega arith) here ∙ ap (λ ys. b ∷ ys) (first_to xs (a + 1) c (a + 2) high (omega arith) (omega arith) there)

none_to : (xs : List ℕ) (a b : ℕ) → a ≡ b → slice_range xs a b ≡ []
none_to xs a b e = ap (slice_range xs a) (sym e) ∙ empty xs a

place : (xs : List ℕ) (i j : ℕ) → i ≡ j → slice_index xs i < 128 → slice_index xs j < 128
place xs i j e h = subst (λ n. slice_index xs n < 128) e h

pub letter_escape : (bytes : List ℕ) (at letter c : ℕ) → HasByte bytes at 92 → HasByte bytes (at + 1) letter → IsLetter letter c → letter < 128 → EscapeStands bytes at (at + 2) c
letter_escape bytes at letter c here there means ascii =
    let written : slice_range bytes at (at + 2) ≡ 92 ∷ letter ∷ [] = two_to bytes at 92 letter (at + 2) (omega arith) here there ∙ ap (λ ys. 92 ∷ letter ∷ ys) (empty bytes (at + 2)) in
    (omega arith, omega (arith, there.0), place bytes (at + 1) (at + 2 - 1) (omega arith) (subst (λ b. b < 128) (sym there.1) ascii), subst (λ bs. IsEscape bs c) (sym written) (of_letter letter c means))

four : (bytes : List ℕ) (at : ℕ) → at + 4 ≤ length bytes
    → slice_range bytes at (at + 4) ≡ slice_index bytes at ∷ slice_index bytes (at + 1) ∷ slice_index bytes (at + 2) ∷ slice_index bytes (at + 3) ∷ []
four bytes at h =
    first_to bytes at (slice_index bytes at) (at + 1) (at + 4) refl (omega arith) (omega arith, refl)
    ∙ ap (λ ys. slice_index bytes at ∷ ys) (first_to bytes (at + 1) (slice_index bytes (at + 1)) (at + 2) (at + 4) (omega arith) (omega arith) (omega arith, refl))
    ∙ ap (λ ys. slice_index bytes at ∷ slice_index bytes (at + 1) ∷ ys) (first_to bytes (at + 2) (slice_index bytes (at + 2)) (at + 3) (at + 4) (omega arith) (omega arith) (omega arith, refl))
    ∙ ap (λ ys. slice_index bytes at ∷ slice_index bytes (at + 1) ∷ slice_index bytes (at + 2) ∷ ys) (first_to bytes (at + 3) (slice_index bytes (at + 3)) (at + 4) (at + 4) (omega arith) (omega arith) (omega arith, refl))
    ∙ ap (λ ys. slice_index bytes at ∷ slice_index bytes (at + 1) ∷ slice_index bytes (at + 2) ∷ slice_index bytes (at + 3) ∷ ys) (empty bytes (at + 4))

summed : (a b c d p q r s n : ℕ) → a ≡ p → b ≡ q → c ≡ r → d ≡ s → n ≡ ((a * 16 + b) * 16 + c) * 16 + d → n ≡ (((0 * 16 + p) * 16 + q) * 16 + r) * 16 + s
summed a b c d p q r s n e f g h k = omega arith

small : (a b c d n : ℕ) → a < 16 → b < 16 → c < 16 → d < 16 → n ≡ ((a * 16 + b) * 16 + c) * 16 + d → n < 0x10000
small a b c d n e f g h k = omega arith

pub unit_is : (bytes : List ℕ) (at a b c d n : ℕ) → HasDigit bytes at a → HasDigit bytes (at + 1) b → HasDigit bytes (at + 2) c → HasDigit bytes (at + 3) d
    → n ≡ ((a * 16 + b) * 16 + c) * 16 + d → IsUnitAt bytes at n
unit_is bytes at a b c d n ha hb hc hd e =
    let within : at + 4 ≤ length bytes = within_by (length bytes) at hd.0 in
    let digit = λ (v x : ℕ) (q : v ≡ digit_value x) (l : v < 16). subst (λ m. m < 16) q l in
    let unit : IsUnit (slice_index bytes at ∷ slice_index bytes (at + 1) ∷ slice_index bytes (at + 2) ∷ slice_index bytes (at + 3) ∷ []) n = (
      refl,
      (digit a (slice_index bytes at) ha.1 ha.2, (digit b (slice_index bytes (at + 1)) hb.1 hb.2, (digit c (slice_index bytes (at + 2)) hc.1 hc.2, (digit d (slice_index bytes (at + 3)) hd.1 hd.2, tt)))),
      summed a b c d (digit_value (slice_index bytes at)) (digit_value (slice_index bytes (at + 1))) (digit_value (slice_index bytes (at + 2))) (digit_value (slice_index bytes (at + 3))) n ha.1 hb.1 hc.1 hd.1 e,
    ) in
    (within, hd.3, small a b c d n ha.2 hb.2 hc.2 hd.2 e, subst (λ bs. IsUnit bs n) (sym (four bytes at within)) unit)
  where
    within_by : (n at : ℕ) → at + 3 < n → at + 4 ≤ n
    within_by n at h = omega arith

-- four digits end at this place
unit_to : (bytes : List ℕ) (at stop n : ℕ) → stop ≡ at + 4 → IsUnitAt bytes at n → IsUnit (slice_range bytes at stop) n
unit_to bytes at stop n e u = subst (λ m. IsUnit (slice_range bytes at m) n) (sym e) u.3

pub unit_escape : (bytes : List ℕ) (at c : ℕ) → HasByte bytes at 92 → HasByte bytes (at + 1) 117 → IsUnitAt bytes (at + 2) c → IsScalar c → EscapeStands bytes at (at + 6) c
unit_escape bytes at c here there unit scalar =
    let written : slice_range bytes at (at + 6) ≡ 92 ∷ 117 ∷ slice_range bytes (at + 2) (at + 6) = two_to bytes at 92 117 (at + 6) (omega arith) here there in (
      omega arith,
      omega (arith, unit.0),
      place bytes (at + 2 + 3) (at + 6 - 1) (omega arith) unit.1,
      subst (λ bs. IsEscape bs c) (sym written) (of_unit (slice_range bytes (at + 2) (at + 6)) c (unit_to bytes (at + 2) (at + 6) c (omega arith) unit) scalar),
    )

pub pair_escape : (bytes : List ℕ) (at high low : ℕ) → HasByte bytes at 92 → HasByte bytes (at + 1) 117 → IsUnitAt bytes (at + 2) high → IsHigh high
    → HasByte bytes (at + 6) 92 → HasByte bytes (at + 7) 117 → IsUnitAt bytes (at + 8) low → IsLow low → EscapeStands bytes at (at + 12) (paired high low)
pair_escape bytes at high low here there unit is_high here' there' unit' is_low =
    let seven : at + 7 ≡ (at + 6) + 1 = omega arith in
    let eight : (at + 6) + 2 ≡ at + 8 = omega arith in
    let behind : slice_range bytes (at + 6) (at + 12) ≡ 92 ∷ 117 ∷ slice_range bytes (at + 8) (at + 12) =
    two_to bytes (at + 6) 92 117 (at + 12) (omega arith) here' (subst (λ n. HasByte bytes n 117) seven there')
    ∙ ap (λ n. 92 ∷ 117 ∷ slice_range bytes n (at + 12)) eight in
    let halves : slice_range bytes (at + 2) (at + 12) ≡ slice_range bytes (at + 2) (at + 6) ++ (92 ∷ 117 ∷ slice_range bytes (at + 8) (at + 12)) =
    sym (joined bytes (at + 2) (at + 6) (at + 12) (omega arith) (omega arith)) ∙ ap (λ ys. slice_range bytes (at + 2) (at + 6) ++ ys) behind in
    let written : slice_range bytes at (at + 12) ≡ 92 ∷ 117 ∷ (slice_range bytes (at + 2) (at + 6) ++ (92 ∷ 117 ∷ slice_range bytes (at + 8) (at + 12))) =
    two_to bytes at 92 117 (at + 12) (omega arith) here there ∙ ap (λ ys. 92 ∷ 117 ∷ ys) halves in (
      omega arith,
      omega (arith, unit'.0),
      place bytes (at + 8 + 3) (at + 12 - 1) (omega arith) unit'.1,
      subst (λ bs. IsEscape bs (paired high low)) (sym written)
          (of_pair (slice_range bytes (at + 2) (at + 6)) (slice_range bytes (at + 8) (at + 12)) high low (unit_to bytes (at + 2) (at + 6) high (omega arith) unit) is_high
          (unit_to bytes (at + 8) (at + 12) low (omega arith) unit') is_low),
    )
