-- The promise of validation with levels, if it finds no error.
use Rattle.std.specs.Prelude.{◌≡◌, ℕ, true, false, List, [], None}
use Rattle.cedar_types.specs.Errors.{Finding, Warning}
use Rattle.cedar_types.specs.Extensions.Functions.{table_fault}
use Rattle.cedar_types.specs.Environments.Linking.{checked_envs}
use Rattle.cedar_types.specs.Environments.RequestEnvs.{Env}
use Rattle.cedar_types.specs.Schemas.{has_fault}
use Rattle.cedar_types.specs.Templates.{PlainTemplate, condition_of}
use Rattle.cedar_typing.specs.Capabilities.{no_caps}
use Rattle.cedar_typing.specs.Evaluation.Conformance.{IsOneOf}
use Rattle.cedar_typing.specs.Evaluation.Eval.{eval}
use Rattle.cedar_typing.specs.Evaluation.World.{World}
use Rattle.cedar_typing.specs.Modes.{IsFormedFor}
use Rattle.cedar_typing.specs.Soundness.Policies.{Basis, IsSoundAndClosed, IsWellFormed, IsConforming, ImpossibleIsNeverTrue, setting_on}
use Rattle.cedar_typing.specs.Soundness.Policies.{CheckedOn}
use Rattle.cedar_typing.specs.Rules.Laws.{IsCut}
use Rattle.cedar_typing.specs.Soundness.PolicyCheck.{IsBooleanOrAllowed}
use Rattle.cedar_typechecker.specs.Levels.Outcome.{LevelOutcome}
use Rattle.cedar_typechecker.specs.Slices.Policies.{IsSameInSlices}

-- ---- nothing is nested too deep

-- no check of the policy is cut: each part that is visited stands within the limit of depth
abbrev pub IsCutNowhere : Basis → PlainTemplate → Type 0
IsCutNowhere b t =
    (env : Env) → IsOneOf env (checked_envs b.schema b.mode t)
    → IsCut (setting_on b t.id env) (condition_of t) no_caps 1 → ⊥

-- a policy whose check passes is cut nowhere
abbrev pub PassingIsCutNowhere : Type 0
PassingIsCutNowhere =
    (b : Basis) (t : PlainTemplate)
    → (errors errors' : List Finding) (old new : List Warning)
    → CheckedOn b t true errors errors' old new → IsCutNowhere b t

-- ---- the promise of silence

-- both halves of the promise, for a policy's condition in a world
pub record IsKeptInSlices (t : PlainTemplate) (n : ℕ) (world : World) : Type 0 where
  -- the condition evaluates to a boolean, or fails only for a missing entity, an overflow or an
  -- extension call
  pub safe : IsBooleanOrAllowed (eval world (condition_of t))
  -- the condition evaluates over each part of the store that has the slice of n steps as over the
  -- whole store
  pub same : IsSameInSlices t world n

-- if validation at the maximum n finds no error, both halves hold in each world that conforms, for
-- a policy without unknowns, whose slots stand in its scope alone and are bound. No part may be
-- nested too deep, because a check that is cut may fail without an error
abbrev pub SilenceIsKept : Basis → PlainTemplate → ℕ → List Finding → Type 0
SilenceIsKept b t n errors =
    errors ≡ [] → IsCutNowhere b t → IsSoundAndClosed b
    → (world : World) → IsWellFormed t world.slots → IsConforming b world
    → IsKeptInSlices t n world

-- if validation warns that the policy is impossible, the condition is never true, with errors or
-- without
abbrev pub WarnedIsNeverTrue : Basis → PlainTemplate → List Warning → Type 0
WarnedIsNeverTrue b t warnings = ImpossibleIsNeverTrue b t [] warnings

-- ---- both promises

-- silence keeps both halves, and the warning is right
pub record OutcomeIsKept (b : Basis) (t : PlainTemplate) (n : ℕ) (errors : List Finding)
    (warnings : List Warning) : Type 0 where
  pub silent : SilenceIsKept b t n errors
  pub never_true : WarnedIsNeverTrue b t warnings

-- both promises follow from the outcome of the validation, if the schema and the table have no
-- faults, as those that the program makes have none
abbrev pub OutcomesAreKept : Type 0
OutcomesAreKept =
    (b : Basis) (t : PlainTemplate)
    → has_fault b.schema ≡ false → IsFormedFor b.mode b.schema
    → table_fault b.table.functions ≡ None
    → (n : ℕ) (errors : List Finding) (warnings : List Warning)
    → LevelOutcome b t n errors warnings → OutcomeIsKept b t n errors warnings
