use Rattle.std.proofs.Common.{◌≡◌, take, map, All}
use Rattle.cedar_host.specs.Found.{AreFindingsOn, IsReportOf}
use Rattle.cedar_host.specs.Safety.{sound_basis, IsRight}
use Rattle.cedar_host.proofs.policy_sets.validate_set.Given as goal

-- the reports so far are on the policies so far, right, and tell the findings
abbrev pub invariant-loop-policy : goal.invariant-loop-policy
invariant-loop-policy g l = record {
  each : map (λ r. r.policy.now) l.reports.items ≡ take l.policy-index l.policies;
  right : All (IsRight (sound_basis l.mode g.C.ArgumentCheck.refusal l.fn.validator)) l.reports.items;
  exact : All (IsReportOf (AreFindingsOn (sound_basis l.mode g.C.ArgumentCheck.refusal l.fn.validator)))
      l.reports.items;
}
