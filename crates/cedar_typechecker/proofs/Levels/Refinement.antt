-- Levels of a policy that passes in Strict are those of Permissive.
use Rattle.std.proofs.Common.{◌≡◌, ◌↔◌, ◌++◌, ℕ, List, Option, Some, None}
use Rattle.std.specs.Prelude.{IsPermutation}
use Rattle.cedar_types.specs.declared.base.types.ValidationMode.TheVariants.{Strict, Permissive}
use Rattle.cedar_types.specs.Errors.{Finding, Warning}
use Rattle.cedar_types.specs.Environments.Linking.{checked_envs}
use Rattle.cedar_types.specs.Environments.RequestEnvs.{Env}
use Rattle.cedar_types.specs.Templates.{PlainTemplate}
use Rattle.cedar_typing.specs.Evaluation.Conformance.{IsOneOf}
use Rattle.cedar_typing.specs.PolicyCheck.Outcome.{warnings_of}
use Rattle.cedar_typing.specs.PolicyCheck.{Verdict}
use Rattle.cedar_typing.specs.Refinement.{basis_in_mode, HasSameVerdicts}
use Rattle.cedar_typing.specs.Soundness.Policies.{Basis}
use Rattle.cedar_typing.proofs.Refinement.Checks.{same_verdicts, in_order_too, verdicts_moved}
use Rattle.cedar_typechecker.specs.Levels.Outcome.{ChecksOn, levels_on, IsErrorInSome, name_findings, application_warnings, LevelOutcome}
use Rattle.cedar_typechecker.specs.Levels.Refinement.{HasSameLevels, StrictLevelsAreKept}
use Rattle.cedar_typechecker.specs.Levels.Required.{IsRequiredLevel}
use Rattle.cedar_typechecker.specs.Slices.Policies.{PolicyIsWithinLevel}

-- the required level of a policy that is within the same levels by two bases
required_moved : (b c : Basis) (t : PlainTemplate)
    → ((n : ℕ) → PolicyIsWithinLevel b t n ↔ PolicyIsWithinLevel c t n)
    → (r : Option ℕ) → IsRequiredLevel b t r → IsRequiredLevel c t r
required_moved b c t w None h = λ n le k. h n le ((w n).1 k)
required_moved b c t w (Some n) h = (h.0, (w n).0 h.1, λ m less k. h.2 m less ((w m).1 k))

-- an outcome by one basis is an outcome by another with the same verdicts and findings
outcome_moved : (b c : Basis) (t : PlainTemplate) (n : ℕ) (errors : List Finding)
    (warnings : List Warning) (o : LevelOutcome b t n errors warnings)
    → ((e : Env) → IsOneOf e (checked_envs b.schema b.mode t) → (v : Verdict)
    → ChecksOn b t e v → ChecksOn c t e v)
    → IsPermutation o.listed (checked_envs c.schema c.mode t)
    → IsPermutation errors (name_findings c.mode c.schema t ++ (o.type_errors ++ o.level_errors))
    → ((e : Finding) → IsOneOf e o.level_errors
    ↔ IsErrorInSome (levels_on c t n) o.listed o.verdicts e)
    → warnings ≡ application_warnings c.mode c.schema t ++ warnings_of t o.verdicts
    → LevelOutcome c t n errors warnings
outcome_moved b c t n errors warnings o same order given levels warned = record {
  listed = o.listed;
  verdicts = o.verdicts;
  in_some_order = order;
  checked =
      verdicts_moved (ChecksOn b t) (ChecksOn c t) o.listed o.verdicts
      (in_order_too (λ e. (v : Verdict) → ChecksOn b t e v → ChecksOn c t e v) o.listed
      (checked_envs b.schema b.mode t) o.in_some_order same) o.checked;
  type_errors = o.type_errors;
  level_errors = o.level_errors;
  given = given;
  types = o.types;
  types_once = o.types_once;
  levels = levels;
  levels_once = o.levels_once;
  warned = warned;
}

module _ (b : Basis) (t : PlainTemplate) (same : HasSameVerdicts b t) where
  abbrev one : Basis
  one = basis_in_mode Strict b

  abbrev other : Basis
  other = basis_in_mode Permissive b

  within_same : (n : ℕ) → PolicyIsWithinLevel one t n ↔ PolicyIsWithinLevel other t n
  within_same n = (λ w e i v h. w e i v ((same e i v).1 h), λ w e i v h. w e i v ((same e i v).0 h))

  required_same : (r : Option ℕ) → IsRequiredLevel one t r ↔ IsRequiredLevel other t r
  required_same r = (
    required_moved one other t within_same r,
    required_moved other one t (λ n. ((within_same n).1, (within_same n).0)) r,
  )

  outcome_same : (n : ℕ) (errors : List Finding) (warnings : List Warning)
      → LevelOutcome one t n errors warnings ↔ LevelOutcome other t n errors warnings
  outcome_same n errors warnings = (
    λ o. outcome_moved one other t n errors warnings o (λ e i v. (same e i v).0) o.in_some_order
        o.given o.levels o.warned,
    λ o. outcome_moved other one t n errors warnings o (λ e i v. (same e i v).1) o.in_some_order
        o.given o.levels o.warned,
  )

  pub same_levels : HasSameLevels b t
  same_levels = record { within = within_same; required = required_same; outcome = outcome_same }

pub strict_levels_are_kept : StrictLevelsAreKept
strict_levels_are_kept b t formed functions errors errors' old new o =
    same_levels b t (same_verdicts b t formed functions errors errors' old new o)
