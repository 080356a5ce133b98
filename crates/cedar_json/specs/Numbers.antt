-- Numbers: the integer that the text of a number writes.
use Rattle.std.specs.Prelude.{◌≡◌, ◌≢◌, ℕ, ◌<◌, ℤ, List, length, slice_index}
use Rattle.std.specs.Str.Parse.{IsNumeral, without_leading_sign, signed_digits_value}

-- digits, at least one, perhaps with a sign before them, and the number that they write in base ten
abbrev pub SaysInteger : List ℕ → ℤ → Type 0
SaysInteger bytes z = IsNumeral 10 (without_leading_sign bytes) × (z ≡ signed_digits_value 10 bytes)

-- No plus (43) stands before the digits, and the first digit is 0 (48) only if it is the only one.
abbrev pub IsDecimal : List ℕ → Type 0
IsDecimal bytes = (slice_index bytes 0 ≢ 43) × (1 < length (without_leading_sign bytes) → slice_index (without_leading_sign bytes) 0 ≢ 48)
