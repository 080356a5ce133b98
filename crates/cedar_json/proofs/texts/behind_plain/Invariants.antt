use Rattle.std.proofs.Common.{ℕ, ◌-◌, ◌<◌, ◌≤◌, length}
use Rattle.std.specs.Prelude.{slice_index}
use Rattle.cedar_json.specs.Texts.{IsPlain}
use Rattle.cedar_json.proofs.texts.behind_plain.Given as goal

abbrev pub decreases-plain : goal.decreases-plain
decreases-plain l = length l.bytes - l.at

abbrev pub invariant-plain : goal.invariant-plain
invariant-plain l = record {
  on : l.start ≤ l.at;
  within : l.at ≤ length l.bytes;
  plain : (i : ℕ) → l.start ≤ i → i < l.at → IsPlain (slice_index l.bytes i);
}
