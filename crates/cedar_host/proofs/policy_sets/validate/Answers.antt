use Rattle.std.proofs.Common.{◌∙◌, sym, subst}
use Rattle.cedar_types.specs.declared.base.types.ValidationMode.{ValidationMode}
use Rattle.cedar_types.specs.Templates.{template_of}
use Rattle.cedar_typechecker.specs.Levels.Required.{IsRequiredLevel}
use Rattle.cedar_typechecker.specs.Slices.Surveys.{SurveyIsKept}
use Rattle.cedar_typechecker.specs.Surveys.{IsSurveyOf}
use Rattle.cedar_typechecker.specs.ValidatorViews.{basis_in as basis_by}
use Rattle.cedar_typechecker.proofs.Slices.Surveys.{checked}
use Rattle.cedar_host.specs.Safety.{sound_basis}
use Rattle.cedar_host.proofs.Promises.{asked_is_sound, passes_everywhere, passing_is_safe, impossible_is_never_true}
use Rattle.cedar_host.proofs.policy_sets.validate.Goals as goal

pub returns-clause-checked : goal.returns-clause-checked
returns-clause-checked g c h =
    let meaning = g.C.ArgumentCheck.refusal in
    let validator = c.args.validator.now in
    let b = sound_basis c.args.mode meaning validator in
    let t = template_of c.args.policy.now in
    let s = c.in_ok-survey.survey in
    let P : ValidationMode → Type 0 = λ m. IsSurveyOf (basis_by meaning validator m) t s in
    let survey : IsSurveyOf b t s = subst P c.from.ensures c.in_ok-survey.ensures.exact in
    passes_everywhere b t _ _ _ _ _ (checked b t s survey) (c.in_ok-findings.ensures.passes h)

pub returns-clause-safe : goal.returns-clause-safe
returns-clause-safe g c h =
    let meaning = g.C.ArgumentCheck.refusal in
    let validator = c.args.validator.now in
    let t = template_of c.args.policy.now in
    let s = c.in_ok-survey.survey in
    let Kept : ValidationMode → Type 0 = λ m. SurveyIsKept (basis_by meaning validator m) t s in
    let kept = subst Kept c.from.ensures c.in_ok-survey.ensures.kept in
    let found = c.in_ok-findings.ensures in
    passing_is_safe (sound_basis c.args.mode meaning validator) t (asked_is_sound c.args.mode) s kept
    (found.passes h) (found.named h)

pub returns-clause-never_true : goal.returns-clause-never_true
returns-clause-never_true g c h =
    let meaning = g.C.ArgumentCheck.refusal in
    let validator = c.args.validator.now in
    let t = template_of c.args.policy.now in
    let s = c.in_ok-survey.survey in
    let Kept : ValidationMode → Type 0 = λ m. SurveyIsKept (basis_by meaning validator m) t s in
    let kept = subst Kept c.from.ensures c.in_ok-survey.ensures.kept in
    impossible_is_never_true (sound_basis c.args.mode meaning validator) t (asked_is_sound c.args.mode) s kept
    (sym c.in_ok-findings.ensures.impossible ∙ h)

pub returns-clause-level : goal.returns-clause-level
returns-clause-level g c =
    let meaning = g.C.ArgumentCheck.refusal in
    let validator = c.args.validator.now in
    let t = template_of c.args.policy.now in
    let s = c.in_ok-survey.survey in
    let P : ValidationMode → Type 0 = λ m. IsSurveyOf (basis_by meaning validator m) t s in
    let survey = subst P c.from.ensures c.in_ok-survey.ensures.exact in
    let b = sound_basis c.args.mode meaning validator in
    subst (IsRequiredLevel b t) (sym c.in_ok-findings.ensures.level) survey.required

pub returns-clause-exact : goal.returns-clause-exact
returns-clause-exact g c =
    let meaning = g.C.ArgumentCheck.refusal in
    let validator = c.args.validator.now in
    let t = template_of c.args.policy.now in
    let s = c.in_ok-survey.survey in
    let P : ValidationMode → Type 0 = λ m. IsSurveyOf (basis_by meaning validator m) t s in
    (s, subst P c.from.ensures c.in_ok-survey.ensures.exact, c.in_ok-findings.ensures.exact)
