-- The promise of the level rules for a policy that passes: without a level error at n, its
-- condition evaluates over each part of a store that has the slice of n steps as over the whole
-- store.
use Rattle.std.specs.Prelude.{◌≡◌, ℕ, true, false, List, None}
use Rattle.cedar_types.specs.Errors.{Finding, Warning}
use Rattle.cedar_types.specs.Extensions.Functions.{table_fault}
use Rattle.cedar_types.specs.Environments.Linking.{checked_envs}
use Rattle.cedar_types.specs.Environments.RequestEnvs.{Env}
use Rattle.cedar_types.specs.Schemas.{has_fault}
use Rattle.cedar_types.specs.Values.Stores.{Store}
use Rattle.cedar_types.specs.Templates.{PlainTemplate, condition_of}
use Rattle.cedar_typing.specs.Evaluation.Conformance.{IsOneOf}
use Rattle.cedar_typing.specs.Evaluation.Eval.{eval}
use Rattle.cedar_typing.specs.Evaluation.World.{World}
use Rattle.cedar_typing.specs.Modes.{IsFormedFor}
use Rattle.cedar_typing.specs.PolicyCheck.{Verdict}
use Rattle.cedar_typing.specs.Soundness.Policies.{Basis, IsSoundAndClosed, IsNamedBySchema, IsWellFormed, IsConforming, CheckedOn}
use Rattle.cedar_typechecker.specs.Levels.Outcome.{ChecksOn, levels_on, IsErrorOfVerdict}
use Rattle.cedar_typechecker.specs.Levels.Setting.{LevelSetting}
use Rattle.cedar_typechecker.specs.Slices.Reach.{HoldsSlice}
use Rattle.cedar_typechecker.specs.Slices.Soundness.{with_store}

-- ---- the level pass is silent

-- the condition that a check typed has no level error. A failed check typed none
abbrev pub VerdictIsWithin : LevelSetting → Verdict → Type 0
VerdictIsWithin s v = (e : Finding) → IsErrorOfVerdict s v e → ⊥

-- the policy has no level error in any environment in which it is checked
abbrev pub PolicyIsWithinLevel : Basis → PlainTemplate → ℕ → Type 0
PolicyIsWithinLevel b t n =
    (env : Env) → IsOneOf env (checked_envs b.schema b.mode t)
    → (v : Verdict) → ChecksOn b t env v → VerdictIsWithin (levels_on b t n env) v

-- ---- the promise

-- the condition evaluates over a part of the store as over the whole store: to the same value, or
-- with the same failure
abbrev pub IsSameIn : PlainTemplate → World → Store → Type 0
IsSameIn t world part =
    eval (with_store world part) (condition_of t) ≡ eval world (condition_of t)

-- the condition evaluates over each part that has the slice of n steps as over the whole store
abbrev pub IsSameInSlices : PlainTemplate → World → ℕ → Type 0
IsSameInSlices t world n =
    (part : Store) → HoldsSlice world.request world.store n part → IsSameIn t world part

-- the condition evaluates so in each world that conforms, over each part that has the slice of n
-- steps, if the level pass is silent at n
abbrev pub SliceSuffices : Basis → PlainTemplate → Type 0
SliceSuffices b t =
    (n : ℕ) → IsSoundAndClosed b → IsNamedBySchema b.schema t → PolicyIsWithinLevel b t n
    → (world : World) → IsWellFormed t world.slots → IsConforming b world
    → IsSameInSlices t world n

-- ---- each policy that passes

-- a statement holds for each policy whose check passes, if the schema and the table have no faults
abbrev pub OfEachPassing : (Basis → PlainTemplate → Type 0) → Type 0
OfEachPassing P =
    (b : Basis) (t : PlainTemplate)
    → has_fault b.schema ≡ false → IsFormedFor b.mode b.schema
    → table_fault b.table.functions ≡ None
    → (errors errors' : List Finding) (old new : List Warning)
    → CheckedOn b t true errors errors' old new → P b t

-- so a policy that passes needs the slice alone
abbrev pub PassingNeedsSliceAlone : Type 0
PassingNeedsSliceAlone = OfEachPassing SliceSuffices
