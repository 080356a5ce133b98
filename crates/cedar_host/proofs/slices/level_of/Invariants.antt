use Rattle.std.proofs.Common.{map, take}
use Rattle.cedar_host.specs.SetLevels.{IsGreatest, level_in}
use Rattle.cedar_host.proofs.slices.level_of.Given as goal

-- the greatest level of the reports so far
abbrev pub invariant-loop-report : goal.invariant-loop-report
invariant-loop-report l = IsGreatest (map level_in (take l.report-index l.reports)) l.greatest
