use Rattle.std.proofs.Common.{ℕ, Option, option_map, ap, sym, subst, ◌∙◌}
use Rattle.cedar_types.specs.declared.base.levels.EntityDerefLevel.{EntityDerefLevel}
use Rattle.cedar_types.specs.Templates.{template_of}
use Rattle.cedar_typechecker.specs.Levels.Required.{IsRequiredLevel}
use Rattle.cedar_host.specs.declared.policy_sets.WrittenPolicy.{WrittenPolicy}
use Rattle.cedar_host.specs.declared.slices.SliceReport.{SliceReport}
use Rattle.cedar_host.specs.Found.{AreFindingsWithin, IsReportOf}
use Rattle.cedar_host.specs.Safety.{sound_basis}
use Rattle.cedar_host.specs.Slices.{NeedsSliceAlone, IsRightForSlices}
use Rattle.cedar_host.proofs.Reported.{one_more_each, one_more_right, report_of, right_report}
use Rattle.cedar_host.proofs.ResponseLaws.{all_unneeded_in_slices}
use Rattle.cedar_host.proofs.SameResponses.{accepted_respond_alike}
use Rattle.cedar_host.proofs.slices.validate_for_slices.Goals as goal

pub loop-policy-preserved : goal.loop-policy-preserved
loop-policy-preserved g c =
    let b = sound_basis c.args.mode g.C.ArgumentCheck.refusal c.args.validator.now in
    let n = c.args.steps in
    let own : SliceReport = record { report = c.in_ok-own.own; level = c.in_ok-found.found.level } in
    let report = c.in_ok-own.ensures in
    let found = c.in_ok-found.ensures in
    let about : SliceReport → WrittenPolicy = λ r. r.report.policy.now in
    let of_policy = ap (λ p. p.now) report.policy in
    let same = ap (λ p. template_of p.template) of_policy in
    let required : Option ℕ = option_map (λ (l : EntityDerefLevel). l.level) own.level in
    let right_now : IsRightForSlices b n own = record {
      right =
          right_report b own.report _ _ _ same report.accepted report.impossible found.checked
          found.safe found.never_true;
      sliced = λ h.
          subst (λ t. NeedsSliceAlone b t n) (sym same) (found.sliced (sym report.accepted ∙ h));
      level = subst (λ t. IsRequiredLevel b t required) (sym same) found.level;
    } in
    let exact_now =
    report_of (AreFindingsWithin n b) own.report _ c.in_ok-found.found same found.exact report.accepted report.impossible
    report.refused report.ordered in
    let IsOf : SliceReport → Type 0 = λ r. IsReportOf (AreFindingsWithin n b) r.report in
    let old = c.loop-policy.reports.items in
    let pushed = c.in_ok-push.ensures.items in
    let inv = c.loop-policy.invariant in
    record {
      each =
          one_more_each about c.args.policies.now c.loop-policy.policy-index c.policy-item.result old _
          own pushed inv.each of_policy c.loop-policy-test.true c.policy-item.is;
      right = one_more_right (IsRightForSlices b n) old _ own pushed inv.right right_now;
      exact = one_more_right IsOf old _ own pushed inv.exact exact_now;
    }

pub returns-clause-responses : goal.returns-clause-responses
returns-clause-responses g c =
    accepted_respond_alike (sound_basis c.args.mode g.C.ArgumentCheck.refusal c.args.validator.now) c.args.steps
    c.loop-policy.reports.items c.loop-policy.invariant.right

pub returns-clause-unneeded : goal.returns-clause-unneeded
returns-clause-unneeded g c =
    all_unneeded_in_slices (sound_basis c.args.mode g.C.ArgumentCheck.refusal c.args.validator.now) c.args.steps
    c.loop-policy.reports.items c.loop-policy.invariant.right
