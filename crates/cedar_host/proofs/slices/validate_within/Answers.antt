use Rattle.std.proofs.Common.{◌≡◌, ◌∙◌, ◌≤◌, [], sym, ap, subst, arith}
use Rattle.cedar_types.specs.declared.base.types.ValidationMode.{ValidationMode}
use Rattle.cedar_types.specs.Lemmas.Comparisons.{and_left, and_right}
use Rattle.cedar_types.specs.Templates.{template_of}
use Rattle.cedar_typing.specs.PolicyCheck.Outcome.{is_silent}
use Rattle.cedar_typing.proofs.Policies.Tallies.{in_other_order}
use Rattle.cedar_typechecker.specs.Levels.Required.{IsRequiredLevel}
use Rattle.cedar_typechecker.specs.Levels.Views.{findings}
use Rattle.cedar_typechecker.specs.Slices.Surveys.{SurveyIsKept}
use Rattle.cedar_typechecker.specs.Surveys.{IsSurveyOf, level_errors_of}
use Rattle.cedar_typechecker.specs.ValidatorViews.{basis_in as basis_by}
use Rattle.cedar_typechecker.proofs.Levels.DemandParts.{nil_by_members}
use Rattle.cedar_typechecker.proofs.Slices.Surveys.{checked}
use Rattle.cedar_host.specs.Found.{listed}
use Rattle.cedar_host.specs.Safety.{sound_basis}
use Rattle.cedar_host.proofs.Found.{gained_before, levels_silent}
use Rattle.cedar_host.proofs.Promises.{asked_is_sound, no_member, passes_everywhere, passing_is_safe, impossible_is_never_true, passing_needs_slice_alone}
use Rattle.cedar_host.proofs.slices.validate_within.Goals as goal

pub returns-clause-checked : goal.returns-clause-checked
returns-clause-checked g c h =
    let meaning = g.C.ArgumentCheck.refusal in
    let validator = c.args.validator.now in
    let b = sound_basis c.args.mode meaning validator in
    let t = template_of c.args.policy.now in
    let s = c.in_ok-survey.survey in
    let P : ValidationMode → Type 0 = λ m. IsSurveyOf (basis_by meaning validator m) t s in
    let survey : IsSurveyOf b t s = subst P c.from.ensures c.in_ok-survey.ensures.exact in
    passes_everywhere b t _ _ _ _ _ (checked b t s survey)
    (c.in_ok-findings.ensures.passes (and_left _ _ h))

pub returns-clause-safe : goal.returns-clause-safe
returns-clause-safe g c h =
    let meaning = g.C.ArgumentCheck.refusal in
    let validator = c.args.validator.now in
    let t = template_of c.args.policy.now in
    let s = c.in_ok-survey.survey in
    let Kept : ValidationMode → Type 0 = λ m. SurveyIsKept (basis_by meaning validator m) t s in
    let kept = subst Kept c.from.ensures c.in_ok-survey.ensures.kept in
    let found = c.in_ok-findings.ensures in
    passing_is_safe (sound_basis c.args.mode meaning validator) t (asked_is_sound c.args.mode) s kept
    (found.passes (and_left _ _ h)) (found.named (and_left _ _ h))

pub returns-clause-sliced : goal.returns-clause-sliced
returns-clause-sliced g c h =
    let meaning = g.C.ArgumentCheck.refusal in
    let validator = c.args.validator.now in
    let t = template_of c.args.policy.now in
    let s = c.in_ok-survey.survey in
    let Kept : ValidationMode → Type 0 = λ m. SurveyIsKept (basis_by meaning validator m) t s in
    let kept = subst Kept c.from.ensures c.in_ok-survey.ensures.kept in
    let found = c.in_ok-findings.ensures in
    let small : c.args.steps ≤ 4294967295 = omega (arith, c.ranges.steps.fits) in
    let exceeding = c.in_ok-exceeding.exceeding.keys in
    let none : exceeding ≡ [] =
    no_member exceeding c.is_empty-is_within.result c.is_empty-is_within.ensures (and_right _ _ h) in
    let silent =
    nil_by_members (level_errors_of s c.args.steps) (findings exceeding)
    (λ e. (c.in_ok-exceeding.ensures e).1) (ap findings none) in
    passing_needs_slice_alone (sound_basis c.args.mode meaning validator) t (asked_is_sound c.args.mode) s kept
    c.args.steps small (found.passes (and_left _ _ h)) silent (found.named (and_left _ _ h))

pub returns-clause-never_true : goal.returns-clause-never_true
returns-clause-never_true g c h =
    let meaning = g.C.ArgumentCheck.refusal in
    let validator = c.args.validator.now in
    let t = template_of c.args.policy.now in
    let s = c.in_ok-survey.survey in
    let Kept : ValidationMode → Type 0 = λ m. SurveyIsKept (basis_by meaning validator m) t s in
    let kept = subst Kept c.from.ensures c.in_ok-survey.ensures.kept in
    impossible_is_never_true (sound_basis c.args.mode meaning validator) t (asked_is_sound c.args.mode) s kept
    (sym c.in_ok-findings.ensures.impossible ∙ h)

pub returns-clause-level : goal.returns-clause-level
returns-clause-level g c =
    let meaning = g.C.ArgumentCheck.refusal in
    let validator = c.args.validator.now in
    let t = template_of c.args.policy.now in
    let s = c.in_ok-survey.survey in
    let P : ValidationMode → Type 0 = λ m. IsSurveyOf (basis_by meaning validator m) t s in
    let survey = subst P c.from.ensures c.in_ok-survey.ensures.exact in
    let b = sound_basis c.args.mode meaning validator in
    subst (IsRequiredLevel b t) (sym c.in_ok-findings.ensures.level) survey.required

pub returns-clause-exact : goal.returns-clause-exact
returns-clause-exact g c =
    let meaning = g.C.ArgumentCheck.refusal in
    let validator = c.args.validator.now in
    let t = template_of c.args.policy.now in
    let s = c.in_ok-survey.survey in
    let P : ValidationMode → Type 0 = λ m. IsSurveyOf (basis_by meaning validator m) t s in
    let levels = level_errors_of s c.args.steps in
    let exceeding = c.in_ok-exceeding.exceeding.keys in
    let found = c.in_ok-findings.findings in
    let exact = c.in_ok-findings.ensures.exact in
    let within = levels_silent levels exceeding c.is_empty-is_within.result c.in_ok-exceeding.ensures c.is_empty-is_within.ensures in (
      s,
      subst P c.from.ensures c.in_ok-survey.ensures.exact,
      record {
        accepted = in_other_order found.is_accepted c.is_empty-is_within.result _ (is_silent levels) exact.accepted within;
        impossible = exact.impossible;
        applicable = exact.applicable;
        errors =
            gained_before (listed found.errors) (findings exceeding) (listed c.add_exceeding.new.errors) _ levels
            c.in_ok-add_exceeding.ensures exact.errors c.in_ok-exceeding.ensures;
        warnings = exact.warnings;
      },
    )
