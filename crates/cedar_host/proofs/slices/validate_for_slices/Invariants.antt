use Rattle.std.proofs.Common.{◌≡◌, take, map, All}
use Rattle.cedar_host.specs.declared.slices.SliceReport.{SliceReport}
use Rattle.cedar_host.specs.Found.{AreFindingsWithin, IsReportOf}
use Rattle.cedar_host.specs.Safety.{sound_basis}
use Rattle.cedar_host.specs.Slices.{IsRightForSlices}
use Rattle.cedar_host.proofs.slices.validate_for_slices.Given as goal

-- the reports so far are on the policies so far, right, and tell the findings
abbrev pub invariant-loop-policy : goal.invariant-loop-policy
invariant-loop-policy g l = record {
  each : map (λ r. r.report.policy.now) l.reports.items ≡ take l.policy-index l.policies;
  right : All
      (IsRightForSlices (sound_basis l.mode g.C.ArgumentCheck.refusal l.fn.validator) l.steps)
      l.reports.items;
  exact : All
      (λ (r : SliceReport). IsReportOf
      (AreFindingsWithin l.steps (sound_basis l.mode g.C.ArgumentCheck.refusal l.fn.validator)) r.report)
      l.reports.items;
}
