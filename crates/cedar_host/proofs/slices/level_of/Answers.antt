use Rattle.std.proofs.Common.{◌≡◌, Some, inl, inr, ap, option_map, arith}
use Rattle.cedar_types.specs.declared.base.levels.EntityDerefLevel.{EntityDerefLevel}
use Rattle.cedar_host.specs.SetLevels.{level_in}
use Rattle.cedar_host.proofs.SetLevels.{none_there, greatest_too}
use Rattle.cedar_host.proofs.slices.level_of.Goals as goal
use Rattle.cedar_host.proofs.slices.level_of.Goals.{then-greatest-level, else-greatest-level}

pub returns-in_default : goal.returns-in_default
returns-in_default c =
    none_there level_in c.args.reports.now c.loop-report.report-index c.report-item.result
    c.loop-report-test.true c.report-item.is
    (ap (option_map (λ (l : EntityDerefLevel). l.level)) c.in_default.is)

pub loop-report-preserved : goal.loop-report-preserved
loop-report-preserved c =
    let n = c.loop-report.greatest in
    let m = c.in-Some.level.level in
    let of_this : level_in c.report-item.result ≡ Some m =
    ap (option_map (λ (l : EntityDerefLevel). l.level)) c.in-Some.is in
    elim c.if-greatest-level.branch [
      | then-greatest-level w ↦
          greatest_too level_in c.args.reports.now c.loop-report.report-index c.report-item.result
          c.loop-report-test.true c.report-item.is n m c.if-greatest-level.greatest
          c.loop-report.invariant of_this (omega (arith, w.greatest-is, w.if-greatest-level.true))
          (omega (arith, w.greatest-is)) (inr w.greatest-is)
      | else-greatest-level w ↦
          greatest_too level_in c.args.reports.now c.loop-report.report-index c.report-item.result
          c.loop-report-test.true c.report-item.is n m c.if-greatest-level.greatest
          c.loop-report.invariant of_this (omega (arith, w.greatest-is))
          (omega (arith, w.greatest-is, w.if-greatest-level.false)) (inl w.greatest-is)
    ]
