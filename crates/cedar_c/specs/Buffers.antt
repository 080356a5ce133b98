-- The buffer of a caller after a call.
use Rattle.std.specs.Prelude.{◌≡◌, ◌≤◌, ◌<◌, ℕ, List, ◌++◌, length, drop, string_bytes, String, Option, MatchOption}
use Rattle.std.specs.Str.{IsUtf8}

-- the buffer is as it was, and no byte is needed
pub record IsLeft (old new : List ℕ) (needed : ℕ) : Type 0 where
  pub same : new ≡ old
  pub none : needed ≡ 0

-- a call hands over one of three: an answer that stands at the beginning of the buffer, whose rest
-- is as it was; an answer for which the buffer is too small, and as it was; and no answer, because
-- memory was refused
pub data IsHandedOver (old new : List ℕ) (needed : ℕ) : ℕ → Type 0 where
  answered : (text : List ℕ) → IsUtf8 text → needed ≡ length text → length text ≤ length old
      → new ≡ text ++ drop (length text) old → IsHandedOver old new needed 0
  too_small : length old < needed → new ≡ old → IsHandedOver old new needed 1
  no_memory : IsLeft old new needed → IsHandedOver old new needed 2

-- an answer of so many bytes is kept
abbrev pub IsKept : {Z : Type 0} → Option (String Z) → ℕ → Type 0
IsKept kept size = MatchOption kept ⊥ (λ s. length (string_bytes s) ≡ size)
