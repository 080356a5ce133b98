-- Verdicts on a policy, and the conditions under which they are right and whole.
use Rattle.std.specs.Prelude.{◌≡◌, ℕ, ◌<◌, Bool, true, false, ◌&&◌, not, List, [], ◌++◌, length, Option, Some, None}
use Rattle.std.specs.List.{list_any}
use Rattle.cedar_types.specs.declared.base.types.ValidationMode.{ValidationMode}
use Rattle.cedar_types.specs.declared.base.types.ValidationMode.TheVariants.{Strict, Permissive, Partial}
use Rattle.cedar_types.specs.Errors.{Fault, unrecognized_entity_type, unrecognized_action_id, Finding}
use Rattle.cedar_types.specs.Extensions.Functions.{Refusals}
use Rattle.cedar_types.specs.Templates.{PlainTemplate}
use Rattle.cedar_extensions.specs.Calls.{unread_in}
use Rattle.cedar_typing.specs.PolicyCheck.Outcome.{is_silent}
use Rattle.cedar_typing.specs.Soundness.Policies.{Basis}
use Rattle.cedar_typechecker.specs.declared.survey.Survey.{Survey}
use Rattle.cedar_typechecker.specs.Levels.Outcome.{name_findings}
use Rattle.cedar_typechecker.specs.Levels.Required.{IsRequiredLevel}
use Rattle.cedar_typechecker.specs.Surveys.{IsSurveyOf, passes_of, impossible_of, errors_of, level_errors_of}
use Rattle.cedar_typechecker.specs.ValidatorViews.{basis_in}
use Rattle.cedar_findings.specs.declared.findings.Requirement.{Requirement}
use Rattle.cedar_findings.specs.declared.findings.Requirement.TheVariants as Requirement
use Rattle.cedar_findings.specs.declared.findings.Verdict.{Verdict}
use Rattle.cedar_host.specs.Safety.{DoesNotGoWrong, IsNeverTrue}
use Rattle.cedar_host.specs.Slices.{NeedsSliceAlone}
use Rattle.cedar_verdicts.specs.declared.settings.Settings.{Settings}
use Rattle.cedar_verdicts.specs.Impossible.{has_impossible}

-- ---- the basis of judgment

-- the validator's schema and extension functions, and the mode
abbrev pub basis_of : {C : Type 0} → (C → Refusals) → Settings C → Basis
basis_of meaning s = basis_in meaning s.validator.now s.mode

-- validation promises something of evaluation in Strict and in Permissive
abbrev pub is_sound : ValidationMode → Bool
is_sound Strict = true
is_sound Permissive = true
is_sound Partial = false

-- ---- findings against a policy

-- level errors, if a level is asked for in a mode that has levels
abbrev pub levels_against : ValidationMode → Option ℕ → Survey → List Finding
levels_against m None s = []
levels_against Strict (Some n) s = level_errors_of s n
levels_against Permissive (Some n) s = level_errors_of s n
levels_against Partial (Some n) s = []

-- a policy's survey, names and levels have no finding: each check passes, and no name and no level
-- has an error
abbrev pub passes_all : Basis → Option ℕ → PlainTemplate → Survey → Bool
passes_all b level t s =
    is_silent (levels_against b.mode level s) && (is_silent (name_findings b.mode b.schema t) && passes_of s)

-- a policy has no finding: none in its survey, names and levels, and none in the texts of its
-- calls, each of which makes a value
abbrev pub finds_nothing : Basis → Option ℕ → PlainTemplate → Survey → Bool
finds_nothing b level t s = passes_all b level t s && is_silent (unread_in t)

-- the errors of a policy's levels, checks and names
abbrev pub found_by_checks : Basis → Option ℕ → PlainTemplate → Survey → List Finding
found_by_checks b level t s = levels_against b.mode level s ++ (errors_of s ++ name_findings b.mode b.schema t)

-- these errors, and those of the texts of its calls
abbrev pub found_against : Basis → Option ℕ → PlainTemplate → Survey → List Finding
found_against b level t s = found_by_checks b level t s ++ unread_in t

abbrev pub is_unknown : Fault → Bool
is_unknown (unrecognized_entity_type p) = true
is_unknown (unrecognized_action_id u) = true
is_unknown _ = false

-- the schema does not declare the type or the action of this error
abbrev pub is_unknown_name : Finding → Bool
is_unknown_name f = is_unknown f.fault

-- ---- the required level

-- a policy has no finding if no level is asked for
abbrev pub PassesWithoutLevel : Basis → PlainTemplate → Type 0
PassesWithoutLevel b t = (s : Survey) × IsSurveyOf b t s × (finds_nothing b None t s ≡ true)

abbrev pub is_said : Requirement → Bool
is_said Requirement.Unsaid = false
is_said Requirement.NoLevel = true
is_said (Requirement.Level l) = true

-- the least number of steps that is enough, if there is one
abbrev pub level_said : Requirement → Option ℕ
level_said Requirement.Unsaid = None
level_said Requirement.NoLevel = None
level_said (Requirement.Level l) = Some l.level

-- ---- a verdict

-- acceptance promises, in Strict and in Permissive, that the policy does not go wrong, and needs
-- only the slice of the level, if one is asked for
pub record IsPromised (b : Basis) (level : Option ℕ) (t : PlainTemplate) (is_accepted : Bool) : Type 0 where
  pub safe : is_sound b.mode ≡ true → is_accepted ≡ true → DoesNotGoWrong b t
  pub sliced : (n : ℕ) → level ≡ Some n → is_sound b.mode ≡ true → is_accepted ≡ true → NeedsSliceAlone b t n

-- a verdict claims no more than holds: acceptance keeps its promise, a level in it is the required
-- one, only a policy with no findings but level errors has one, and in Strict and in Permissive a
-- policy that a warning calls impossible is never true
pub record IsRightVerdict (b : Basis) (level : Option ℕ) (t : PlainTemplate) (v : Verdict) : Type 0 where
  pub promised : IsPromised b level t v.is_accepted
  pub required : is_said v.requirement ≡ true → IsRequiredLevel b t (level_said v.requirement)
  pub only : is_said v.requirement ≡ true → PassesWithoutLevel b t
  pub never_true : is_sound b.mode ≡ true → has_impossible v ≡ true → IsNeverTrue b t

-- a verdict claims no less than holds: a policy is accepted exactly if nothing is found against it,
-- and no policy of its set before it has its id
pub record IsWholeVerdict (b : Basis) (level : Option ℕ) (t : PlainTemplate) (is_repeated : Bool) (v : Verdict) : Type 0 where
  pub survey : Survey
  pub surveyed : IsSurveyOf b t survey
  pub accepted : v.is_accepted ≡ (finds_nothing b level t survey && not is_repeated)
  -- an error is listed if the policy is refused, and none if it is accepted
  pub refused : v.is_accepted ≡ false → 0 < length v.errors.items
  pub clean : v.is_accepted ≡ true → length v.errors.items ≡ 0
  -- the level is said if nothing is found against the policy
  pub said : finds_nothing b level t survey ≡ true → is_sound b.mode ≡ true → is_said v.requirement ≡ true
  -- a warning calls the policy impossible if its survey does, unless the schema does not declare a
  -- name in it, or a finding is not listed
  pub impossible : impossible_of survey ≡ true
      → list_any is_unknown_name (found_against b level t survey) ≡ false
      → v.others ≡ 0 → has_impossible v ≡ true
