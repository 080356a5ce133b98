-- The texts of addresses and of ranges of them.
use Rattle.std.specs.Prelude.{ℕ, zero, suc, ◌+◌, ◌-◌, Bool, true, false, ◌&&◌, ◌||◌, List, [], ◌∷◌, Option, Some, None, ◌==◌, nat_le, if◌then◌else◌}
use Rattle.std.specs.Char.{is_ascii_digit, is_ascii_hexdigit}
use Rattle.cedar_extensions.specs.Texts.Readers.{◌>>=◌, read_byte, read_number, is_all}

abbrev pub has_leading_zero : List ℕ → Bool
has_leading_zero [] = false
has_leading_zero (a ∷ []) = false
has_leading_zero (a ∷ b ∷ rest) = (a == 48) && is_ascii_digit b

-- the rest behind a number up to this one, without a leading zero
unfoldable pub read_count : ℕ → List ℕ → Option (List ℕ)
read_count greatest s =
    if has_leading_zero s then None
    else read_number s >>= λ n. if nat_le n.0 greatest then Some n.1 else None

-- the rest behind four numbers of 8 bits with dots between them
unfoldable pub read_ipv4 : List ℕ → Option (List ℕ)
read_ipv4 s = do
  a ← read_count 255 s
  after_a ← read_byte 46 a
  b ← read_count 255 after_a
  after_b ← read_byte 46 b
  c ← read_count 255 after_b
  after_c ← read_byte 46 c
  read_count 255 after_c

-- the rest behind one hex digit, or the whole text if it does not begin with one
abbrev pub skip_hex : List ℕ → List ℕ
skip_hex [] = []
skip_hex (c ∷ cs) = if is_ascii_hexdigit c then cs else c ∷ cs

-- the rest behind one to four hex digits
abbrev pub read_group : List ℕ → Option (List ℕ)
read_group [] = None
read_group (c ∷ cs) = if is_ascii_hexdigit c then Some (skip_hex (skip_hex (skip_hex cs))) else None

-- the rest behind a group, which has a colon before it unless it is the first
abbrev pub read_next_group : Bool → List ℕ → Option (List ℕ)
read_next_group true s = read_group s
read_next_group false s = read_byte 58 s >>= read_group

-- the number of groups at the front, up to so many, and the rest behind them
unfoldable pub read_groups : ℕ → Bool → List ℕ → ℕ × List ℕ
read_groups zero is_first s = (0, s)
read_groups (suc room) is_first s =
    elim (read_next_group is_first s) [
      | None ↦ (0, s)
      | Some rest ↦ let more = read_groups room false rest in (more.0 + 1, more.1)
    ]

-- the rest behind two colons, which stand for at least one group, and the groups behind them
unfoldable pub read_tail : ℕ → List ℕ → Option (List ℕ)
read_tail head s = do
  one ← read_byte 58 s
  two ← read_byte 58 one
  Some ((read_groups (7 - head) true two).1)

-- the rest behind eight groups, or behind fewer with two colons among them
unfoldable pub read_ipv6 : List ℕ → Option (List ℕ)
read_ipv6 s =
    let head = read_groups 8 true s in
    if head.0 == 8 then Some head.1 else read_tail head.0 head.1

-- the text ends, or has `/` and the number of bits of an address that a range keeps
abbrev pub is_range_end : ℕ → List ℕ → Bool
is_range_end greatest [] = true
is_range_end greatest (c ∷ cs) = (c == 47) && is_all (read_count greatest cs)

-- the text is an address of the kind, perhaps with the number of bits that a range keeps
abbrev pub ends_range : ℕ → Option (List ℕ) → Bool
ends_range greatest None = false
ends_range greatest (Some rest) = is_range_end greatest rest

abbrev pub is_address_or_range : List ℕ → Bool
is_address_or_range s = ends_range 32 (read_ipv4 s) || ends_range 128 (read_ipv6 s)
