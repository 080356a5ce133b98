-- Positions in texts.
use Rattle.std.specs.Prelude.{◌≡◌, ℕ, ◌+◌, ◌-◌, ◌<◌, ◌≤◌, min, Bool, not, ◌&&◌, ◌||◌, ◌==◌, List, length, filter, slice_index, slice_range, nat_lt, cond}
use Rattle.std.specs.List.{range_with_len}
use Rattle.cedar_editor.specs.declared.lines.Position.{Position}
use Rattle.cedar_editor.specs.Units.{units}

-- a line other than the first begins at a byte: behind `\n`, or behind `\r` if no `\n` stands at the byte
abbrev pub begins_line : List ℕ → ℕ → Bool
begins_line bytes n =
    nat_lt 0 n && (slice_index bytes (n - 1) == 10 || (slice_index bytes (n - 1) == 13 && not (slice_index bytes n == 10)))

-- the bytes of a text at which lines begin, in their order, without the first line
abbrev pub line_starts : List ℕ → List ℕ
line_starts bytes = filter (begins_line bytes) (range_with_len 0 (length bytes + 1))

-- the byte behind a change, once the change is made: the changed part ended at `old`, and ends at `new` now; no place lies
-- beyond 64 bits
abbrev pub moved_byte : ℕ → ℕ → ℕ → ℕ
moved_byte old new b = min ((b - old) + new) 18446744073709551615

-- the byte at which a line begins; `starts` has the beginnings of all lines but the first
abbrev pub start_in : List ℕ → ℕ → ℕ
start_in starts n = cond (nat_lt 0 n) (slice_index starts (n - 1)) 0

-- a position is the position of a byte: the byte stands in its line, at the beginning of the line
-- or behind it and before the next line, and as many units as the position tells stand between
pub record IsPositionOf (starts bytes : List ℕ) (byte : ℕ) (p : Position) : Type 0 where
  pub declared : p.line ≤ length starts
  pub begun : start_in starts p.line ≤ byte
  pub over : p.line < length starts → byte < slice_index starts p.line
  pub unit : p.unit ≡ units (slice_range bytes (start_in starts p.line) byte)
