-- The survey of a policy: the findings of its checks in all of its environments, and the demands of
-- their typed conditions.
use Rattle.std.specs.Prelude.{◌≡◌, ◌↔◌, ℕ, ◌≤◌, max, nat_le, Bool, true, false, List, [], ◌∷◌, ◌++◌, map, Option, Some, None, if◌then◌else◌, ◌⊎◌}
use Rattle.std.specs.Prelude.{IsPermutation, filter, length, not}
use Rattle.std.specs.BTreeMap.{keys, get}
use Rattle.std.specs.List.{list_any}
use Rattle.cedar_types.specs.declared.base.errors.validation_errors.ValidationError.{ValidationError}
use Rattle.cedar_types.specs.Environments.Linking.{checked_envs}
use Rattle.cedar_types.specs.Environments.RequestEnvs.{Env}
use Rattle.cedar_types.specs.ErrorOrder.{error_cmp}
use Rattle.cedar_types.specs.Errors.{Finding, finding_of}
use Rattle.cedar_types.specs.Names.{text_of}
use Rattle.cedar_types.specs.Schemas.{Schema}
use Rattle.cedar_types.specs.Templates.{PlainTemplate}
use Rattle.cedar_typing.specs.Evaluation.Conformance.{IsOneOf}
use Rattle.cedar_typing.specs.PolicyCheck.{Verdict, succeeds, irrelevant, fails}
use Rattle.cedar_typing.specs.PolicyCheck.Outcome.{VerdictsOf, is_silent, all_pass, all_irrelevant, all_errors}
use Rattle.cedar_typing.specs.Soundness.Policies.{Basis}
use Rattle.cedar_typechecker.specs.declared.survey.environments.Environments.{Environments}
use Rattle.cedar_typechecker.specs.declared.survey.Survey.{Survey}
use Rattle.cedar_typechecker.specs.Levels.Demands.{Need, this_level, no_literal, a_rule, Demand, told, capped, Surroundings, add_demands}
use Rattle.cedar_typechecker.specs.Levels.Outcome.{ChecksOn, levels_on, IsErrorInSome, AreApart}
use Rattle.cedar_typechecker.specs.Levels.Required.{IsRequiredLevel}
use Rattle.cedar_typechecker.specs.Levels.Setting.{action_of}
use Rattle.cedar_typechecker.specs.Levels.Views.{demands_of}
use Rattle.cedar_typechecker.specs.SurveyedErrors.{HasEnvironments}

-- ---- verdicts

-- the check fails and finds no error
abbrev pub fails_silently : Verdict → Bool
fails_silently (succeeds x) = false
fails_silently (irrelevant es x) = false
fails_silently (fails es) = is_silent es

abbrev pub some_fails_silently : List Verdict → Bool
some_fails_silently = list_any fails_silently

-- a policy may apply in an environment if its check there is not irrelevant, or finds an error
abbrev pub may_apply : Verdict → Bool
may_apply (succeeds x) = true
may_apply (irrelevant es x) = not (is_silent es)
may_apply (fails es) = true

-- the surroundings on which the demands in an environment depend
abbrev pub surroundings_at : Schema → Env → Surroundings
surroundings_at s env = record { action = action_of env; schema = s }

-- a demand of the condition that a check typed. A failed check typed none
abbrev pub IsDemandOfVerdict : Surroundings → Verdict → Demand → Type 0
IsDemandOfVerdict s (succeeds x) d = IsOneOf d (add_demands s x 0 [])
IsDemandOfVerdict s (irrelevant es x) d = IsOneOf d (add_demands s x 0 [])
IsDemandOfVerdict s (fails es) d = ⊥

-- a demand of some environment, by that environment's verdict
abbrev pub IsDemandInSome : Schema → List Env → List Verdict → Demand → Type 0
IsDemandInSome s [] vs d = ⊥
IsDemandInSome s (env ∷ envs) [] d = ⊥
IsDemandInSome s (env ∷ envs) (v ∷ vs) d =
    IsDemandOfVerdict (surroundings_at s env) v d ⊎ IsDemandInSome s envs vs d

-- ---- the least level

-- the least level that meets one need beside those so far. No level is enough if none was, or if
-- none meets the need
abbrev pub raise : Need → Option ℕ → Option ℕ
raise need None = None
raise (this_level k) (Some least) = Some (max least k)
raise no_literal (Some least) = None
raise a_rule (Some least) = None

abbrev pub raise_all : List Demand → Option ℕ → Option ℕ
raise_all [] r = r
raise_all (d ∷ ds) r = raise_all ds (raise d.need r)

-- the level if it has at most 32 bits, because no maximum has more
abbrev pub of_32_bits : Option ℕ → Option ℕ
of_32_bits None = None
of_32_bits (Some least) = if nat_le least 4294967295 then Some least else None

-- ---- views of a survey

unfoldable pub passes_of : Survey → Bool
passes_of s = s.passes

unfoldable pub impossible_of : Survey → Bool
impossible_of s = s.is_impossible

unfoldable pub fails_silently_of : Survey → Bool
fails_silently_of s = s.fails_without_error

-- the number of environments in which the policy may apply
unfoldable pub applicable_of : Survey → ℕ
applicable_of s = s.applicable

-- the errors of the checks
unfoldable pub errors_of : Survey → List Finding
errors_of s = map finding_of (keys s.errors)

-- the environments that are kept for an error, if the survey has that error
unfoldable pub environments_of : Survey → ValidationError → Option Environments
environments_of s x = get error_cmp s.errors x

-- the level errors at a maximum
unfoldable pub level_errors_of : Survey → ℕ → List Finding
level_errors_of s n = told (text_of s.policy_id.text) n (demands_of s.demands.keys)

-- the least level that is enough, if a number of 32 bits is
unfoldable pub required_of : Survey → Option ℕ
required_of s = of_32_bits (raise_all (demands_of s.demands.keys) (Some 0))

-- s is a survey of these verdicts of these environments
pub record Surveys (schema : Schema) (s : Survey) (envs : List Env) (vs : List Verdict) : Type 0 where
  pub passes : s.passes ≡ all_pass vs
  pub impossible : s.is_impossible ≡ all_irrelevant vs
  pub silent : s.fails_without_error ≡ some_fails_silently vs
  pub applicable : s.applicable ≡ capped (length (filter may_apply vs))
  pub errors : (e : Finding)
      → IsOneOf e (map finding_of (keys s.errors)) ↔ IsOneOf e (all_errors vs)
  pub environments : (x : ValidationError)
      → HasEnvironments (finding_of x) envs vs (get error_cmp s.errors x)
  pub demands : (d : Demand)
      → IsOneOf d (demands_of s.demands.keys) ↔ IsDemandInSome schema envs vs d

-- s is the survey of a policy, in all of its environments
pub record IsSurveyOf (b : Basis) (t : PlainTemplate) (s : Survey) : Type 0 where
  -- the environments in some order, and a verdict of each
  pub listed : List Env
  pub verdicts : List Verdict
  pub in_some_order : IsPermutation listed (checked_envs b.schema b.mode t)
  pub checked : VerdictsOf (ChecksOn b t) listed verdicts
  -- whether it passes, whether it is impossible, and whether it fails somewhere without an error
  pub passes : passes_of s ≡ all_pass verdicts
  pub impossible : impossible_of s ≡ all_irrelevant verdicts
  pub silent : fails_silently_of s ≡ some_fails_silently verdicts
  -- the number of environments in which it may apply, up to the greatest number of 64 bits
  pub applicable : applicable_of s ≡ capped (length (filter may_apply verdicts))
  -- the errors of the checks, and the environments in which each occurs
  pub errors : (e : Finding) → IsOneOf e (errors_of s) ↔ IsOneOf e (all_errors verdicts)
  pub environments : (x : ValidationError)
      → HasEnvironments (finding_of x) listed verdicts (environments_of s x)
  -- the level errors at each maximum of 32 bits, and the least level without one
  pub levels : (n : ℕ) → n ≤ 4294967295 → (e : Finding)
      → IsOneOf e (level_errors_of s n) ↔ IsErrorInSome (levels_on b t n) listed verdicts e
  pub required : IsRequiredLevel b t (required_of s)

-- a list gained the errors of a survey, and its level errors at n, each once
pub record AddsFound (s : Survey) (n : ℕ) (old new : List Finding) : Type 0 where
  pub level_errors : List Finding
  pub added : new ≡ old ++ (errors_of s ++ level_errors)
  pub types_once : AreApart (errors_of s)
  pub levels : (e : Finding) → IsOneOf e level_errors ↔ IsOneOf e (level_errors_of s n)
  pub levels_once : AreApart level_errors
