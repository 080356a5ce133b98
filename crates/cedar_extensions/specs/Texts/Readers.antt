-- Readers of the front of a text: each gives the part that it read and the rest.
use Rattle.std.specs.Prelude.{ℕ, ◌+◌, ◌*◌, ◌-◌, ◌^◌, min, Bool, true, false, ◌&&◌, List, [], ◌∷◌, Option, Some, None, option_map, option_and_then, ◌==◌, if◌then◌else◌}
use Rattle.std.specs.Borrow.{Bor}
use Rattle.std.specs.Char.{is_ascii_digit}

-- a value that was read, and the text after it
abbrev pub Read : Type 0 → Type 0
Read A = Option (A × List ℕ)

-- the plain data of a part that a reader read
abbrev pub read_in : {A : Type 0} → Option (A × Bor (List ℕ)) → Read A
read_in r = option_map (λ p. (p.0, p.1.now)) r

-- the plain data of the text that a function left
abbrev pub left_in : Option (Bor (List ℕ)) → Option (List ℕ)
left_in r = option_map (λ b. b.now) r

-- the next reader goes on behind a value that was read
infixl 10 ◌>>=◌
abbrev pub ◌>>=◌ : {A B : Type 0} → Option A → (A → Option B) → Option B
o >>= f = option_and_then f o

abbrev pub is_empty : List ℕ → Bool
is_empty [] = true
is_empty (c ∷ cs) = false

-- a part was read, and nothing follows it
abbrev pub is_all : Option (List ℕ) → Bool
is_all None = false
is_all (Some rest) = is_empty rest

-- the rest behind this byte
abbrev pub read_byte : ℕ → List ℕ → Option (List ℕ)
read_byte byte [] = None
read_byte byte (c ∷ cs) = if c == byte then Some cs else None

-- ---- numbers

-- the value of a digit
abbrev pub digit : ℕ → ℕ
digit c = c - 48

-- a number of 64 bits, or the greatest of them
abbrev pub in_64_bits : ℕ → ℕ
in_64_bits n = min n (2 ^ 64 - 1)

-- the number of the digits so far and of those at the front, and the rest behind these. No text of
-- a value has a number beyond 64 bits, so the greatest one stands for all of them
abbrev pub number_after : ℕ → List ℕ → ℕ × List ℕ
number_after n [] = (n, [])
number_after n (c ∷ cs) =
    if is_ascii_digit c then number_after (in_64_bits (in_64_bits (n * 10) + digit c)) cs else (n, c ∷ cs)

abbrev pub begins_with_digit : List ℕ → Bool
begins_with_digit [] = false
begins_with_digit (c ∷ cs) = is_ascii_digit c

-- a number of one digit or more, and the rest
unfoldable pub read_number : List ℕ → Read ℕ
read_number s = if begins_with_digit s then Some (number_after 0 s) else None

-- a number of two digits, and the rest
abbrev pub read_two_digits : List ℕ → Read ℕ
read_two_digits [] = None
read_two_digits (a ∷ []) = None
read_two_digits (a ∷ b ∷ rest) =
    if is_ascii_digit a && is_ascii_digit b then Some (10 * digit a + digit b, rest) else None

-- whether a text begins with a minus, and the rest behind it, or the whole text without one
abbrev pub without_minus : List ℕ → Bool × List ℕ
without_minus [] = (false, [])
without_minus (c ∷ cs) = if c == 45 then (true, cs) else (false, c ∷ cs)
