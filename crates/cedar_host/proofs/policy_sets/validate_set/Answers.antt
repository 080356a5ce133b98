use Rattle.std.proofs.Common.{ap}
use Rattle.cedar_types.specs.Templates.{template_of}
use Rattle.cedar_host.specs.declared.policy_sets.WrittenPolicy.{WrittenPolicy}
use Rattle.cedar_host.specs.declared.reports.PolicyReport.{PolicyReport}
use Rattle.cedar_host.specs.Found.{AreFindingsOn, IsReportOf}
use Rattle.cedar_host.specs.Safety.{sound_basis, IsRight}
use Rattle.cedar_host.proofs.Reported.{one_more_each, one_more_right, report_of, right_report}
use Rattle.cedar_host.proofs.ResponseLaws.{all_unneeded}
use Rattle.cedar_host.proofs.policy_sets.validate_set.Goals as goal

pub loop-policy-preserved : goal.loop-policy-preserved
loop-policy-preserved g c =
    let b = sound_basis c.args.mode g.C.ArgumentCheck.refusal c.args.validator.now in
    let answer = c.in_ok-report.field-0 in
    let report = c.in_ok-report.ensures in
    let found = c.in_ok-findings.ensures in
    let about : PolicyReport → WrittenPolicy = λ r. r.policy.now in
    let of_policy = ap (λ p. p.now) report.policy in
    let same = ap (λ p. template_of p.template) of_policy in
    let right_now =
    right_report b answer _ _ _ same report.accepted
    report.impossible found.checked found.safe found.never_true in
    let exact_now =
    report_of (AreFindingsOn b) answer _ c.in_ok-findings.findings same found.exact report.accepted report.impossible
    report.refused report.ordered in
    let old = c.loop-policy.reports.items in
    let pushed = c.in_ok-push.ensures.items in
    let inv = c.loop-policy.invariant in
    record {
      each =
          one_more_each about c.args.policies.now c.loop-policy.policy-index c.policy-item.result old _
          answer pushed inv.each of_policy c.loop-policy-test.true c.policy-item.is;
      right = one_more_right (IsRight b) old _ answer pushed inv.right right_now;
      exact = one_more_right (IsReportOf (AreFindingsOn b)) old _ answer pushed inv.exact exact_now;
    }

pub returns-clause-unneeded : goal.returns-clause-unneeded
returns-clause-unneeded g c =
    all_unneeded (sound_basis c.args.mode g.C.ArgumentCheck.refusal c.args.validator.now)
    c.loop-policy.reports.items c.loop-policy.invariant.right
