use Rattle.std.proofs.Common.{◌≡◌, ℕ, ◌<◌, true, get_or}
use Rattle.std.specs.Char.{is_ascii_digit}
use Rattle.cedar_frames.proofs.heads.count_digits.Given as goal

-- the bytes so far are digits
abbrev pub invariant-loop-at : goal.invariant-loop-at
invariant-loop-at l = (n : ℕ) → n < l.at → is_ascii_digit (get_or l.bytes n 0) ≡ true
