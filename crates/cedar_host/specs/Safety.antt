-- The promise to a host in its mode, for policies that are accepted and for those that are impossible.
use Rattle.std.specs.Prelude.{◌≡◌, Bool, true, false}
use Rattle.cedar_types.specs.declared.base.types.ValidationMode.{ValidationMode}
use Rattle.cedar_types.specs.Extensions.{functions_of, overloaded_types_of}
use Rattle.cedar_types.specs.Extensions.Functions.{Refusals}
use Rattle.cedar_types.specs.Environments.Linking.{checked_envs}
use Rattle.cedar_types.specs.Environments.RequestEnvs.{Env}
use Rattle.cedar_types.specs.Schemas.Contents.{schema_of}
use Rattle.cedar_types.specs.Templates.{PlainTemplate, template_of, condition_of}
use Rattle.cedar_typechecker.specs.declared.rbac.validator.Validator.{Validator}
use Rattle.cedar_typechecker.specs.ValidatorViews.{schema_in, extensions_in}
use Rattle.cedar_typing.specs.Composition.{SlotsInScopeAlone}
use Rattle.cedar_typing.specs.Evaluation.Conformance.{IsOneOf, IsEnvironmentOf, SlotsBound, has_external}
use Rattle.cedar_typing.specs.Evaluation.Eval.{eval}
use Rattle.cedar_typing.specs.Evaluation.World.{World}
use Rattle.cedar_typing.specs.PolicyCheck.{Verdict, succeeds, irrelevant, fails, PolicyChecks}
use Rattle.cedar_typing.specs.PolicyCheck.Outcome.{passes}
use Rattle.cedar_typing.specs.Soundness.Policies.{Basis, IsWellFormed, IsConforming, setting_on}
use Rattle.cedar_typing.specs.Soundness.PolicyCheck.{IsBooleanOrAllowed}
use Rattle.cedar_typing.specs.Soundness.{IsTrueOutcome, IsWorldOf}
use Rattle.cedar_host.specs.declared.reports.PolicyReport.{PolicyReport}
use Rattle.cedar_host.specs.declared.safety.SoundMode.{SoundMode}

-- ---- the schema, the functions and the mode of a host

-- the libraries' mode for the host's
abbrev pub validation_mode : SoundMode → ValidationMode
validation_mode SoundMode.Strict = ValidationMode.Strict
validation_mode SoundMode.Permissive = ValidationMode.Permissive

-- the schema and the extension functions of the host's validator, and the mode that it asked for
abbrev pub sound_basis : {C : Type 0} → SoundMode → (C → Refusals) → Validator C → Basis
sound_basis mode meaning v = record {
  schema = schema_of (schema_in v);
  mode = validation_mode mode;
  table = record {
    functions = functions_of meaning (extensions_in v).now;
    overloaded_types = overloaded_types_of (extensions_in v).now;
  };
}

-- ---- in one environment

-- in each world of an environment of the schema, which has no external declarations, and with the slots
-- of the condition bound, evaluation gives a boolean, or fails only for a missing entity, an overflow or
-- an extension function
abbrev pub IsSafeToEvaluate : Basis → PlainTemplate → Env → Type 0
IsSafeToEvaluate b t env =
    has_external b.schema ≡ false → IsEnvironmentOf b.schema env
    → (world : World) → IsWorldOf (setting_on b t.id env) world
    → SlotsBound world.slots (condition_of t)
    → IsBooleanOrAllowed (eval world (condition_of t))

-- the check of the policy is a success
abbrev pub is_success : Verdict → Bool
is_success (succeeds x) = true
is_success (irrelevant es x) = false
is_success (fails es) = false

-- the answer tells whether the check of the policy in this environment is a success
abbrev pub IsSuccessWhere : Basis → PlainTemplate → Env → Bool → Type 0
IsSuccessWhere b t env answer =
    (v : Verdict) × PolicyChecks (setting_on b t.id env) (condition_of t) v × (answer ≡ is_success v)

-- ---- in all environments

-- in the mode, the check of the policy passes in each of its environments: it is a success there, or
-- irrelevant without errors
abbrev pub PassesEverywhere : Basis → PlainTemplate → Type 0
PassesEverywhere b t =
    (env : Env) → IsOneOf env (checked_envs b.schema b.mode t)
    → (v : Verdict) × PolicyChecks (setting_on b t.id env) (condition_of t) v × (passes v ≡ true)

-- in each world that conforms, evaluation gives a boolean, or fails only for a missing entity, an
-- overflow or an extension function, if the policy has no unknowns, its slots stand only in its scope
-- and are bound, and the schema has no external declarations
abbrev pub DoesNotGoWrong : Basis → PlainTemplate → Type 0
DoesNotGoWrong b t =
    has_external b.schema ≡ false
    → (world : World) → IsWellFormed t world.slots → IsConforming b world
    → IsBooleanOrAllowed (eval world (condition_of t))

-- in each world that conforms, evaluation does not give true, if the policy's slots stand only in its
-- scope, bound or not, and the schema has no external declarations
abbrev pub IsNeverTrue : Basis → PlainTemplate → Type 0
IsNeverTrue b t =
    has_external b.schema ≡ false → SlotsInScopeAlone t
    → (world : World) → IsConforming b world
    → IsTrueOutcome (eval world (condition_of t)) → ⊥

-- a report of a policy claims no more than holds: if the policy is accepted, it passes its check and
-- does not go wrong, and if it is impossible, it is never true
pub record IsRight (b : Basis) (r : PolicyReport) : Type 0 where
  pub checked : r.is_accepted ≡ true → PassesEverywhere b (template_of r.policy.now.template)
  pub safe : r.is_accepted ≡ true → DoesNotGoWrong b (template_of r.policy.now.template)
  pub never_true : r.is_impossible ≡ true → IsNeverTrue b (template_of r.policy.now.template)
