-- The texts of decimal numbers and of durations.
use Rattle.std.specs.Prelude.{ℕ, ◌+◌, ◌*◌, Bool, false, not, ◌&&◌, List, [], ◌∷◌, Option, Some, None, ◌==◌, nat_le, if◌then◌else◌, length}
use Rattle.std.specs.Char.{is_ascii_alphabetic}
use Rattle.cedar_extensions.specs.Texts.Readers.{Read, ◌>>=◌, read_byte, read_number, without_minus, is_empty}

-- the greatest number behind a sign, in the last places of a decimal and in milliseconds
abbrev pub greatest : Bool → ℕ
greatest is_negative = if is_negative then 0x8000_0000_0000_0000 else 0x7fff_ffff_ffff_ffff

-- ---- decimal numbers

-- the value, in ten thousandths, of the last of so many digits behind a point; none without a digit or with more than four
abbrev pub scale_of : ℕ → ℕ
scale_of digits =
    if digits == 1 then 1000 else if digits == 2 then 100
    else if digits == 3 then 10 else if digits == 4 then 1 else 0

-- the value, in ten thousandths, of one to four digits behind a point
unfoldable pub ten_thousandths : List ℕ → Option ℕ
ten_thousandths s = do
  n ← read_number s
  if is_empty n.1 && not (scale_of (length s) == 0) then Some (n.0 * scale_of (length s)) else None

-- the value, in ten thousandths, of digits, a point, and one to four digits
unfoldable pub decimal_value : List ℕ → Option ℕ
decimal_value s = do
  whole ← read_number s
  behind ← read_byte 46 whole.1
  part ← ten_thousandths behind
  Some (whole.0 * 10000 + part)

abbrev pub is_at_most : ℕ → Option ℕ → Bool
is_at_most most None = false
is_at_most most (Some n) = nat_le n most

abbrev pub is_decimal : List ℕ → Bool
is_decimal s =
    let signed = without_minus s in is_at_most (greatest signed.0) (decimal_value signed.1)

-- ---- durations

abbrev pub begins_with_letter : List ℕ → Bool
begins_with_letter [] = false
begins_with_letter (c ∷ cs) = is_ascii_alphabetic c

-- the rest behind these letters, if it does not begin with a letter
unfoldable pub read_unit : List ℕ → List ℕ → Option (List ℕ)
read_unit [] s = if begins_with_letter s then None else Some s
read_unit (c ∷ cs) s = read_byte c s >>= read_unit cs

-- a number with its unit behind it, and the rest
unfoldable pub read_quantity : List ℕ → List ℕ → Read ℕ
read_quantity unit s = do
  n ← read_number s
  rest ← read_unit unit n.1
  Some (n.0, rest)

-- the milliseconds that a text gives in this unit, which has so many of them, and the rest; none if the unit is left out
abbrev pub found_in : ℕ → List ℕ → Read ℕ → ℕ × List ℕ
found_in milliseconds s None = (0, s)
found_in milliseconds s (Some q) = (q.0 * milliseconds, q.1)

unfoldable pub skip_unit : List ℕ → ℕ → List ℕ → ℕ × List ℕ
skip_unit unit milliseconds s = found_in milliseconds s (read_quantity unit s)

-- the milliseconds of days, hours, minutes, seconds and milliseconds, each of which may be left out, and the rest
unfoldable pub milliseconds : List ℕ → ℕ × List ℕ
milliseconds s =
    let d = skip_unit (100 ∷ []) 86400000 s in
    let h = skip_unit (104 ∷ []) 3600000 d.1 in
    let m = skip_unit (109 ∷ []) 60000 h.1 in
    let sec = skip_unit (115 ∷ []) 1000 m.1 in
    let ms = skip_unit (109 ∷ 115 ∷ []) 1 sec.1 in
    (d.0 + h.0 + m.0 + sec.0 + ms.0, ms.1)

abbrev pub is_duration : List ℕ → Bool
is_duration s =
    let signed = without_minus s in
    let said = milliseconds signed.1 in
    not (is_empty signed.1) && is_empty said.1 && nat_le said.0 (greatest signed.0)
