-- The texts of points in time.
use Rattle.std.specs.Prelude.{ℕ, ◌+◌, ◌*◌, ◌%◌, Bool, true, false, not, ◌&&◌, ◌||◌, List, [], ◌∷◌, Option, Some, None, ◌==◌, nat_lt, nat_le, if◌then◌else◌}
use Rattle.std.specs.Char.{is_ascii_digit}
use Rattle.cedar_extensions.specs.Texts.Readers.{◌>>=◌, read_byte, read_two_digits, is_empty, is_all}

abbrev pub is_leap_year : ℕ → Bool
is_leap_year year = (year % 4 == 0) && (not (year % 100 == 0) || (year % 400 == 0))

-- the number of days in a month; none if there is no such month
abbrev pub days_of : ℕ → ℕ → ℕ
days_of year month =
    if month == 2 then (if is_leap_year year then 29 else 28)
    else if month == 4 || month == 6 || month == 9 || month == 11 then 30
    else if nat_le 1 month && nat_le month 12 then 31
    else 0

-- the rest behind `YYYY-MM-DD`, if the calendar has that day
unfoldable pub read_date : List ℕ → Option (List ℕ)
read_date s = do
  century ← read_two_digits s
  year ← read_two_digits century.1
  to_month ← read_byte 45 year.1
  month ← read_two_digits to_month
  to_day ← read_byte 45 month.1
  day ← read_two_digits to_day
  let days = days_of (100 * century.0 + year.0) month.0
  if nat_le 1 day.0 && nat_le day.0 days then Some day.1 else None

-- the rest behind `hh:mm:ss`, if a day has that second
unfoldable pub read_clock : List ℕ → Option (List ℕ)
read_clock s = do
  hour ← read_two_digits s
  to_minute ← read_byte 58 hour.1
  minute ← read_two_digits to_minute
  to_second ← read_byte 58 minute.1
  second ← read_two_digits to_second
  if nat_lt hour.0 24 && nat_lt minute.0 60 && nat_lt second.0 60 then Some second.1 else None

-- the rest behind three digits
abbrev pub read_three_digits : List ℕ → Option (List ℕ)
read_three_digits [] = None
read_three_digits (a ∷ rest) =
    if is_ascii_digit a then (read_two_digits rest >>= λ r. Some r.1) else None

-- the rest behind `.SSS`
abbrev pub read_fraction : List ℕ → Option (List ℕ)
read_fraction s = read_byte 46 s >>= read_three_digits

-- the rest behind `.SSS`, or the whole text if it does not begin with a fraction
abbrev pub skip_fraction : List ℕ → List ℕ
skip_fraction s = elim (read_fraction s) [ None ↦ s | Some rest ↦ rest ]

-- the rest behind `hhmm`, if it is less than a day
unfoldable pub read_offset : List ℕ → Option (List ℕ)
read_offset s = do
  hour ← read_two_digits s
  minute ← read_two_digits hour.1
  if nat_lt hour.0 24 && nat_lt minute.0 60 then Some minute.1 else None

-- the text is `Z`, `+hhmm` or `-hhmm`
abbrev pub is_zone : List ℕ → Bool
is_zone [] = false
is_zone (c ∷ cs) =
    if c == 90 then is_empty cs else ((c == 43) || (c == 45)) && is_all (read_offset cs)

-- the text is a time of the day, perhaps with milliseconds, and its zone
abbrev pub is_clock_with_zone : List ℕ → Bool
is_clock_with_zone s =
    elim (read_clock s) [ None ↦ false | Some rest ↦ is_zone (skip_fraction rest) ]

-- the text is empty, or is `T` and a time of the day with its zone
abbrev pub is_time : List ℕ → Bool
is_time [] = true
is_time (c ∷ cs) = (c == 84) && is_clock_with_zone cs

-- the text is a date, or a date and a time of the day with its zone
abbrev pub is_point_in_time : List ℕ → Bool
is_point_in_time s = elim (read_date s) [ None ↦ false | Some rest ↦ is_time rest ]
