-- Findings in a policy: exactly those of its survey, of the passes over its names and of its
-- levels.
use Rattle.std.specs.Prelude.{◌≡◌, ◌↔◌, ℕ, Bool, true, false, ◌&&◌, List, [], ◌∷◌, ◌++◌, map, cond}
use Rattle.std.specs.BTreeMap.{BTreeMap, keys}
use Rattle.cedar_types.specs.declared.base.errors.validation_errors.ValidationError.{ValidationError}
use Rattle.cedar_types.specs.declared.base.types.ValidationMode.TheVariants.{Strict}
use Rattle.cedar_types.specs.Errors.{Finding, warning_of}
use Rattle.cedar_types.specs.Schemas.{Schema}
use Rattle.cedar_types.specs.Templates.{PlainTemplate, template_of}
use Rattle.cedar_typing.specs.Evaluation.Conformance.{IsOneOf}
use Rattle.cedar_typing.specs.PolicyCheck.Outcome.{is_silent, impossible as warning_that_impossible}
use Rattle.cedar_typing.specs.Soundness.Policies.{Basis}
use Rattle.cedar_typechecker.specs.declared.survey.environments.Environments.{Environments}
use Rattle.cedar_typechecker.specs.declared.survey.Survey.{Survey}
use Rattle.cedar_typechecker.specs.Levels.Outcome.{name_findings, application_warnings}
use Rattle.cedar_typechecker.specs.Levels.Views.{findings}
use Rattle.cedar_typechecker.specs.Surveys.{IsSurveyOf, passes_of, impossible_of, applicable_of, errors_of, level_errors_of}
use Rattle.cedar_host.specs.declared.policy_sets.Findings.{Findings}
use Rattle.cedar_host.specs.declared.reports.PolicyReport.{PolicyReport}
use Rattle.cedar_host.specs.ReportOrder.{IsInOrder}

-- the errors of a map from errors to their environments
abbrev pub listed : BTreeMap ValidationError Environments → List Finding
listed errors = findings (keys errors)

-- the findings of a survey, of the passes over names, and of these level errors. The passes find
-- equal errors in Strict and in Permissive
pub record AreFoundBy (s : Schema) (t : PlainTemplate) (survey : Survey) (levels : List Finding) (f : Findings) : Type 0 where
  -- the policy is accepted if no level and no name has an error, and each check passes
  pub accepted : f.is_accepted ≡ (is_silent levels && (is_silent (name_findings Strict s t) && passes_of survey))
  pub impossible : f.is_impossible ≡ impossible_of survey
  pub applicable : f.applicable_environments ≡ applicable_of survey
  -- the list has each error of the levels, of the checks and of the names, and no other
  pub errors : (e : Finding)
      → IsOneOf e (listed f.errors) ↔ IsOneOf e (levels ++ (errors_of survey ++ name_findings Strict s t))
  pub warnings : map warning_of f.warnings.items
      ≡ application_warnings Strict s t ++ cond (impossible_of survey) (warning_that_impossible t ∷ []) []

-- the findings in a policy, without levels
abbrev pub AreFindingsOn : Basis → PlainTemplate → Findings → Type 0
AreFindingsOn b t f = (survey : Survey) × IsSurveyOf b t survey × AreFoundBy b.schema t survey [] f

-- the findings in a policy for slices of n steps
abbrev pub AreFindingsWithin : ℕ → Basis → PlainTemplate → Findings → Type 0
AreFindingsWithin n b t f =
    (survey : Survey) × IsSurveyOf b t survey × AreFoundBy b.schema t survey (level_errors_of survey n) f

-- ---- findings in a report

-- if the policy is refused, there is an error
abbrev pub ListsAnError : PolicyReport → Type 0
ListsAnError r = r.is_accepted ≡ false → r.errors.items ≡ [] → ⊥

-- a report has the findings in its policy, lists an error if it refuses the policy, and lists its
-- findings in the order of places
pub record IsReportOf (AreFindings : PlainTemplate → Findings → Type 0) (r : PolicyReport) : Type 0 where
  pub outcome : Findings
  pub found : AreFindings (template_of r.policy.now.template) outcome
  pub accepted : r.is_accepted ≡ outcome.is_accepted
  pub impossible : r.is_impossible ≡ outcome.is_impossible
  pub refused : ListsAnError r
  pub ordered : IsInOrder r
