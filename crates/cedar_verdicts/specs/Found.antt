-- Findings of validation on a policy, in any mode, by its survey.
use Rattle.std.specs.Prelude.{◌≡◌, ℕ, Bool, true, false, ◌||◌, List, Option}
use Rattle.std.specs.List.{list_any}
use Rattle.cedar_types.specs.declared.base.errors.validation_errors.ValidationError.{ValidationError}
use Rattle.cedar_types.specs.declared.base.errors.validation_warnings.ValidationWarning.{ValidationWarning}
use Rattle.cedar_types.specs.declared.base.errors.validation_warnings.ValidationWarning.TheVariants as warning
use Rattle.cedar_types.specs.Errors.{Finding, finding_of}
use Rattle.cedar_types.specs.Templates.{PlainTemplate}
use Rattle.cedar_typing.specs.Soundness.Policies.{Basis}
use Rattle.cedar_typechecker.specs.declared.survey.Survey.{Survey}
use Rattle.cedar_typechecker.specs.Surveys.{IsSurveyOf, impossible_of}
use Rattle.cedar_host.specs.declared.policy_sets.Findings.{Findings}
use Rattle.cedar_host.specs.Found.{listed}
use Rattle.cedar_verdicts.specs.Verdicts.{passes_all, finds_nothing, found_by_checks, found_against, is_unknown_name}

-- the warning is that the policy is impossible
abbrev pub warns_of_impossible : ValidationWarning → Bool
warns_of_impossible (warning.ImpossiblePolicy w) = true
warns_of_impossible (warning.InvalidActionApplication w) = false

-- the error is a name that the schema does not declare
abbrev pub is_unknown_error : ValidationError → Bool
is_unknown_error e = is_unknown_name (finding_of e)

-- each test passes some member of one list exactly if it passes some member of the other
abbrev pub HaveSameMembers : {A : Type 0} → List A → List A → Type 0
HaveSameMembers {A} xs ys = (p : A → Bool) → list_any p xs ≡ list_any p ys

-- the new list has the members of the old one and these
abbrev pub AreAdded : {A : Type 0} → List A → List A → List A → Type 0
AreAdded {A} these old new = (p : A → Bool) → list_any p new ≡ (list_any p these || list_any p old)

-- the findings are these errors, accept the policy exactly if it passes, and tell and warn that it is impossible
-- exactly if its survey is
pub record AreFoundIn (survey : Survey) (passes : Bool) (all : List Finding) (f : Findings) : Type 0 where
  pub accepted : f.is_accepted ≡ passes
  pub impossible : f.is_impossible ≡ impossible_of survey
  pub warned : list_any warns_of_impossible f.warnings.items ≡ impossible_of survey
  pub errors : HaveSameMembers (listed f.errors) all

-- the findings of some survey, of names and of levels
abbrev pub AreFoundByChecks : Basis → Option ℕ → PlainTemplate → Findings → Type 0
AreFoundByChecks b level t f =
    (s : Survey) × IsSurveyOf b t s × AreFoundIn s (passes_all b level t s) (found_by_checks b level t s) f

-- the findings of some survey, of names, of levels and of the texts of calls
abbrev pub AreFoundAgainst : Basis → Option ℕ → PlainTemplate → Findings → Type 0
AreFoundAgainst b level t f =
    (s : Survey) × IsSurveyOf b t s × AreFoundIn s (finds_nothing b level t s) (found_against b level t s) f
