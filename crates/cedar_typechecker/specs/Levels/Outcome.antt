-- The outcome of the validation of a policy, without levels and with them.
use Rattle.std.specs.Prelude.{◌≡◌, ◌↔◌, ℕ, cond, List, [], ◌∷◌, ◌++◌, ◌⊎◌, IsPermutation}
use Rattle.cedar_types.specs.declared.base.types.ValidationMode.{ValidationMode}
use Rattle.cedar_types.specs.declared.base.types.ValidationMode.TheVariants.{Strict, Permissive, Partial}
use Rattle.cedar_types.specs.Errors.{Finding, Warning}
use Rattle.cedar_types.specs.Templates.Findings.{unknown_types, unknown_actions, wrong_members}
use Rattle.cedar_types.specs.Environments.Linking.{checked_envs}
use Rattle.cedar_types.specs.Environments.RequestEnvs.{Env}
use Rattle.cedar_types.specs.Schemas.{Schema}
use Rattle.cedar_types.specs.Templates.{PlainTemplate, condition_of}
use Rattle.cedar_typing.specs.Evaluation.Conformance.{IsOneOf}
use Rattle.cedar_typing.specs.PolicyCheck.{Verdict, succeeds, irrelevant, fails, PolicyChecks}
use Rattle.cedar_typing.specs.PolicyCheck.Outcome.{VerdictsOf, all_errors, warnings_of}
use Rattle.cedar_typing.specs.Soundness.Policies.{Basis, setting_on}
use Rattle.cedar_typechecker.specs.Applications.{has_fitting_action, application_warning}
use Rattle.cedar_typechecker.specs.Levels.Errors.{IsLevelError}
use Rattle.cedar_typechecker.specs.Levels.Setting.{LevelSetting, action_of}

-- ---- one environment

-- a verdict of a policy in an environment
abbrev pub ChecksOn : Basis → PlainTemplate → Env → Verdict → Type 0
ChecksOn b t env = PolicyChecks (setting_on b t.id env) (condition_of t)

-- the setting of levels in an environment, at the maximum n
abbrev pub levels_on : Basis → PlainTemplate → ℕ → Env → LevelSetting
levels_on b t n env = record {
  action = action_of env;
  schema = b.schema;
  maximum = n;
  policy = t.id;
}

-- a level error of the condition that a check typed. An irrelevant condition counts too, because it
-- is evaluated all the same. A failed check typed no condition
abbrev pub IsErrorOfVerdict : LevelSetting → Verdict → Finding → Type 0
IsErrorOfVerdict s (succeeds x) e = IsLevelError s x e
IsErrorOfVerdict s (irrelevant es x) e = IsLevelError s x e
IsErrorOfVerdict s (fails es) e = ⊥

-- ---- all environments

-- a level error of some environment, by that environment's verdict
abbrev pub IsErrorInSome : (Env → LevelSetting) → List Env → List Verdict → Finding → Type 0
IsErrorInSome levels [] vs e = ⊥
IsErrorInSome levels (env ∷ envs) [] e = ⊥
IsErrorInSome levels (env ∷ envs) (v ∷ vs) e =
    IsErrorOfVerdict (levels env) v e ⊎ IsErrorInSome levels envs vs e

-- the findings of the passes over names. They do not run in Partial, because its schema need not
-- declare every name
abbrev pub name_findings : ValidationMode → Schema → PlainTemplate → List Finding
name_findings Strict s t = wrong_members s t ++ (unknown_types s t ++ unknown_actions s t)
name_findings Permissive s t = wrong_members s t ++ (unknown_types s t ++ unknown_actions s t)
name_findings Partial s t = []

-- the warning that no action fits the scope, in the modes in which the passes run
abbrev pub application_warnings : ValidationMode → Schema → PlainTemplate → List Warning
application_warnings Strict s t = cond (has_fitting_action s t) [] (application_warning s t ∷ [])
application_warnings Permissive s t =
    cond (has_fitting_action s t) [] (application_warning s t ∷ [])
application_warnings Partial s t = []

-- no member is in the list twice
abbrev pub AreApart : {A : Type 0} → List A → Type 0
AreApart [] = Unit {0}
AreApart (x ∷ xs) = (IsOneOf x xs → ⊥) × AreApart xs

-- the errors and the warnings of a policy
pub record ValidationOutcome (b : Basis) (t : PlainTemplate)
    (errors : List Finding) (warnings : List Warning) : Type 0 where
  -- the environments in some order, and a verdict of each
  pub listed : List Env
  pub verdicts : List Verdict
  pub in_some_order : IsPermutation listed (checked_envs b.schema b.mode t)
  pub checked : VerdictsOf (ChecksOn b t) listed verdicts
  -- the errors are those of the passes, as often as they are found, and the members of a set
  pub type_errors : List Finding
  pub given : IsPermutation errors (name_findings b.mode b.schema t ++ type_errors)
  -- the errors of the checks, each once
  pub types : (e : Finding) → IsOneOf e type_errors ↔ IsOneOf e (all_errors verdicts)
  pub types_once : AreApart type_errors
  -- the warnings: that no action fits the scope, and that the policy is impossible
  pub warned : warnings ≡ application_warnings b.mode b.schema t ++ warnings_of t verdicts

-- the errors and the warnings of a policy, at the maximum n
pub record LevelOutcome (b : Basis) (t : PlainTemplate) (n : ℕ)
    (errors : List Finding) (warnings : List Warning) : Type 0 where
  -- the environments in some order, and a verdict of each
  pub listed : List Env
  pub verdicts : List Verdict
  pub in_some_order : IsPermutation listed (checked_envs b.schema b.mode t)
  pub checked : VerdictsOf (ChecksOn b t) listed verdicts
  -- the errors are those of the passes, as often as they are found, and the members of two sets
  pub type_errors : List Finding
  pub level_errors : List Finding
  pub given : IsPermutation errors
      (name_findings b.mode b.schema t ++ (type_errors ++ level_errors))
  -- the errors of the checks, each once
  pub types : (e : Finding) → IsOneOf e type_errors ↔ IsOneOf e (all_errors verdicts)
  pub types_once : AreApart type_errors
  -- the level errors of the environments whose checks do not fail, each once
  pub levels : (e : Finding)
      → IsOneOf e level_errors ↔ IsErrorInSome (levels_on b t n) listed verdicts e
  pub levels_once : AreApart level_errors
  -- the warnings: that no action fits the scope, and that the policy is impossible
  pub warned : warnings ≡ application_warnings b.mode b.schema t ++ warnings_of t verdicts
