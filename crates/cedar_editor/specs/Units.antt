-- Units of UTF-16 in bytes of UTF-8.
use Rattle.std.specs.Prelude.{ℕ, ◌<◌, ◌≤◌, List, length, slice_index, nat_lt, cond, sum_by}

-- the units of the character that a byte begins: one for a character below 2 ^ 16, which has up to three bytes, else two; a
-- byte that begins no character has none
abbrev pub weight : ℕ → ℕ
weight b = cond (nat_lt b 128) 1 (cond (nat_lt b 192) 0 (cond (nat_lt b 240) 1 2))

-- the units of the characters of these bytes
abbrev pub units : List ℕ → ℕ
units bytes = sum_by weight bytes

-- a character begins at this byte, or the text ends there
pub record IsBoundary (bytes : List ℕ) (n : ℕ) : Type 0 where
  pub within : n ≤ length bytes
  pub begins : n < length bytes → 0 < weight (slice_index bytes n)
