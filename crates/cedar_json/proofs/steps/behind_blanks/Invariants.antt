use Rattle.std.proofs.Common.{◌-◌, ◌≤◌, length}
use Rattle.cedar_json.specs.Says.{Blanks}
use Rattle.cedar_json.proofs.steps.behind_blanks.Given as goal

abbrev pub decreases-blanks : goal.decreases-blanks
decreases-blanks l = length l.bytes - l.at

abbrev pub invariant-blanks : goal.invariant-blanks
invariant-blanks l = record {
  within : l.at ≤ length l.bytes;
  blanks : Blanks l.bytes l.start l.at;
}
