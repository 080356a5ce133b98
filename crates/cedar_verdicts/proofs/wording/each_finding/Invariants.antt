use Rattle.std.proofs.Common.{◌≡◌, true, length, take}
use Rattle.std.specs.List.{list_any}
use Rattle.cedar_verdicts.specs.Impossible.{calls_impossible}
use Rattle.cedar_verdicts.specs.Mistakes.{is_of_impossible, may_be_of_impossible}
use Rattle.cedar_verdicts.proofs.wording.each_finding.Given as goal

-- each mistake so far has its finding
abbrev pub invariant-loop-mistake : goal.invariant-loop-mistake
invariant-loop-mistake l = record {
  each : length l.findings.items ≡ l.mistake-index;
  told : list_any is_of_impossible (take l.mistake-index l.mistakes) ≡ true → list_any calls_impossible l.findings.items ≡ true;
  only : list_any calls_impossible l.findings.items ≡ true → list_any may_be_of_impossible (take l.mistake-index l.mistakes) ≡ true;
}
