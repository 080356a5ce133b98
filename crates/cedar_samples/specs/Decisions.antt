-- Decisions of the gate on policies.
use Rattle.std.specs.Prelude.{◌≡◌, ℕ, Bool, not, List, map, All}
use Rattle.std.specs.List.{filter}
use Rattle.cedar_host.specs.declared.policy_sets.WrittenPolicy.{WrittenPolicy}
use Rattle.cedar_host.specs.declared.slices.SliceReport.{SliceReport}
use Rattle.cedar_host.specs.Found.{AreFindingsWithin, IsReportOf}
use Rattle.cedar_host.specs.Slices.{IsRightForSlices}
use Rattle.cedar_typing.specs.Soundness.Policies.{Basis}

abbrev pub is_accepted : SliceReport → Bool
is_accepted r = r.report.is_accepted

abbrev pub is_refused : SliceReport → Bool
is_refused r = not r.report.is_accepted

-- there is a right report on each policy: the accepted ones are admitted, and the others refused, in their order
pub record AreDecided (b : Basis) (steps : ℕ) (policies : List WrittenPolicy) (yes no : List SliceReport) : Type 0 where
  pub reports : List SliceReport
  pub each : map (λ r. r.report.policy.now) reports ≡ policies
  pub right : All (IsRightForSlices b steps) reports
  -- each report tells the findings in its policy, and accepts it exactly if there are none
  pub exact : All (λ r. IsReportOf (AreFindingsWithin steps b) r.report) reports
  pub admitted : yes ≡ filter is_accepted reports
  pub refused : no ≡ filter is_refused reports
