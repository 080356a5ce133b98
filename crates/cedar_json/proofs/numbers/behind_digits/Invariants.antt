use Rattle.std.proofs.Common.{ℕ, ◌-◌, ◌<◌, ◌≤◌, length}
use Rattle.std.specs.Prelude.{slice_index}
use Rattle.std.specs.Int.{IsInRange}
use Rattle.cedar_json.proofs.numbers.behind_digits.Given as goal

abbrev pub decreases-digits : goal.decreases-digits
decreases-digits l = length l.bytes - l.at

abbrev pub invariant-digits : goal.invariant-digits
invariant-digits l = record {
  on : l.start ≤ l.at;
  within : l.at ≤ length l.bytes;
  digits : (i : ℕ) → l.start ≤ i → i < l.at → IsInRange 48 57 (slice_index l.bytes i);
}
