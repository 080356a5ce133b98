-- Quoted texts: the text that the bytes between quotes say.
use Rattle.std.specs.Prelude.{◌≡◌, ℕ, ◌+◌, ◌-◌, ◌*◌, ◌<◌, ◌≤◌, ◌≢◌, ⊤, List, [], ◌∷◌, ◌++◌, length, slice_index, slice_range}
use Rattle.std.specs.Char.{IsScalar, encode_utf8, digit_value}
use Rattle.std.specs.Str.Parse.{AllDigits, digits_value}

-- The byte b stands at this place.
abbrev pub HasByte : List ℕ → ℕ → ℕ → Type 0
HasByte bytes i b = (i < length bytes) × (slice_index bytes i ≡ b)

-- A plain byte stands for itself: it is no quote (34), no backslash (92) and no control character
-- below a space (32).
abbrev pub IsPlain : ℕ → Type 0
IsPlain b = (32 ≤ b) × (b ≢ 34) × (b ≢ 92)

-- each of these bytes stands for itself
abbrev pub ArePlain : List ℕ → Type 0
ArePlain [] = ⊤
ArePlain (b ∷ bytes) = IsPlain b × ArePlain bytes

-- The letter behind a backslash, and the character that both stand for.
pub data IsLetter : ℕ → ℕ → Type 0 where
  quote : IsLetter 34 34
  backslash : IsLetter 92 92
  slash : IsLetter 47 47
  -- b and f
  backspace : IsLetter 98 8
  form_feed : IsLetter 102 12
  -- n, r and t
  line_feed : IsLetter 110 10
  carriage_return : IsLetter 114 13
  tab : IsLetter 116 9

-- four digits in base sixteen, and their number
abbrev pub IsUnit : List ℕ → ℕ → Type 0
IsUnit digits n = (length digits ≡ 4) × AllDigits 16 digits × (n ≡ digits_value 16 digits)

-- the first and the second half of a surrogate pair
abbrev pub IsHigh : ℕ → Type 0
IsHigh n = (0xD800 ≤ n) × (n < 0xDC00)

abbrev pub IsLow : ℕ → Type 0
IsLow n = (0xDC00 ≤ n) × (n < 0xE000)

-- the character of a surrogate pair
abbrev pub paired : ℕ → ℕ → ℕ
paired high low = 0x10000 + (high - 0xD800) * 0x400 + (low - 0xDC00)

-- An escape and its character: a backslash and a letter; or a backslash, `u` (117) and the digits
-- of a character that is no half of a pair; or two of these that are both halves of a pair.
pub data IsEscape : List ℕ → ℕ → Type 0 where
  of_letter : (letter c : ℕ) → IsLetter letter c → IsEscape (92 ∷ letter ∷ []) c
  of_unit : (digits : List ℕ) (c : ℕ) → IsUnit digits c → IsScalar c → IsEscape (92 ∷ 117 ∷ digits) c
  of_pair : (highs lows : List ℕ) (high low : ℕ) → IsUnit highs high → IsHigh high → IsUnit lows low → IsLow low
      → IsEscape (92 ∷ 117 ∷ highs ++ 92 ∷ 117 ∷ lows) (paired high low)

-- The bytes say a text: each plain byte itself, each escape the bytes of its character.
pub data Unescapes : List ℕ → List ℕ → Type 0 where
  nothing : Unescapes [] []
  plain : (b : ℕ) (bytes said : List ℕ) → IsPlain b → Unescapes bytes said → Unescapes (b ∷ bytes) (b ∷ said)
  escape : (written : List ℕ) (c : ℕ) (bytes said : List ℕ) → IsEscape written c → Unescapes bytes said
      → Unescapes (written ++ bytes) (encode_utf8 c ++ said)

-- Quotes stand first and last at this place, and the bytes between them say the text.
abbrev pub Quotes : List ℕ → ℕ → ℕ → List ℕ → Type 0
Quotes bytes start stop said = (start + 1 < stop) × HasByte bytes start 34 × HasByte bytes (stop - 1) 34
    × Unescapes (slice_range bytes (start + 1) (stop - 1)) said

-- ---- vocabulary of the reader's contracts

-- an escape stands from `start` to `stop` and says a character, and its last byte is ASCII
abbrev pub EscapeStands : List ℕ → ℕ → ℕ → ℕ → Type 0
EscapeStands bytes start stop c = (start < stop) × (stop ≤ length bytes) × (slice_index bytes (stop - 1) < 128) × IsEscape (slice_range bytes start stop) c

-- the character of an escape was added
abbrev pub AddsEscape : List ℕ → List ℕ → List ℕ → Type 0
AddsEscape written old new = (c : ℕ) × IsEscape written c × (new ≡ old ++ encode_utf8 c)

-- a digit in base sixteen stands at this place
abbrev pub HasDigit : List ℕ → ℕ → ℕ → Type 0
HasDigit bytes i d = (i < length bytes) × (d ≡ digit_value (slice_index bytes i)) × (d < 16) × (slice_index bytes i < 128)

-- four digits in base sixteen stand from this place on
abbrev pub IsUnitAt : List ℕ → ℕ → ℕ → Type 0
IsUnitAt bytes at n = (at + 4 ≤ length bytes) × (slice_index bytes (at + 3) < 128) × (n < 0x10000) × IsUnit (slice_range bytes at (at + 4)) n
