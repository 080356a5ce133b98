-- Statements on the examples of needed premises: the premises that an example meets, and that
-- evaluation over the part of the store differs from evaluation over the store.
use Rattle.std.specs.Prelude.{◌≡◌, ℕ, true, false, None}
use Rattle.cedar_types.specs.declared.base.types.ValidationMode.{ValidationMode}
use Rattle.cedar_types.specs.Errors.{Fault, Finding}
use Rattle.cedar_types.specs.Extensions.Functions.{table_fault}
use Rattle.cedar_types.specs.Schemas.Formed.{has_formed_types}
use Rattle.cedar_types.specs.Environments.Linking.{checked_envs}
use Rattle.cedar_types.specs.Environments.RequestEnvs.{Env}
use Rattle.cedar_types.specs.Schemas.{has_fault}
use Rattle.cedar_types.specs.Values.Stores.{Store}
use Rattle.cedar_types.specs.Templates.{PlainTemplate, condition_of}
use Rattle.cedar_typing.specs.Evaluation.Conformance.{IsOneOf, has_external}
use Rattle.cedar_typing.specs.Evaluation.Eval.{eval}
use Rattle.cedar_typing.specs.Evaluation.World.{World, Outcome}
use Rattle.cedar_typing.specs.PolicyCheck.{Verdict}
use Rattle.cedar_typing.specs.Soundness.Policies.{Basis, IsNamedBySchema, IsWellFormed, IsConforming}
use Rattle.cedar_typechecker.specs.Levels.Outcome.{ChecksOn, levels_on, IsErrorOfVerdict}
use Rattle.cedar_typechecker.specs.Slices.Examples.World.{slice_of}
use Rattle.cedar_typechecker.specs.Slices.Examples.{HasLevelError}
use Rattle.cedar_typechecker.specs.Slices.Policies.{PolicyIsWithinLevel, IsSameIn}
use Rattle.cedar_typechecker.specs.Slices.Reach.{HoldsSlice}
use Rattle.cedar_typechecker.specs.Slices.Soundness.{with_store}

-- ---- premises that an example meets

-- the premises on the checker
pub record IsAskedCheckerIn (m : ValidationMode) (b : Basis) : Type 0 where
  pub faultless : has_fault b.schema ≡ false
  pub formed : has_formed_types b.schema ≡ true
  pub faultless_functions : table_fault b.table.functions ≡ None
  pub mode : b.mode ≡ m
  pub closed : has_external b.schema ≡ false

-- the premises on the checker and on the world
pub record IsAskedIn (m : ValidationMode) (b : Basis) (world : World) : Type 0 where
  pub checker : IsAskedCheckerIn m b
  pub conforming : IsConforming b world

-- the premises on the policy, in this world
pub record IsAskedPolicy (b : Basis) (t : PlainTemplate) (world : World) : Type 0 where
  pub named : IsNamedBySchema b.schema t
  pub well_formed : IsWellFormed t world.slots

-- each level error, in each environment in which the policy is checked, has this fault
abbrev pub NoOtherFault : Basis → PlainTemplate → ℕ → Fault → Type 0
NoOtherFault b t n f =
    (env : Env) → IsOneOf env (checked_envs b.schema b.mode t)
    → (v : Verdict) → ChecksOn b t env v
    → (e : Finding) → IsErrorOfVerdict (levels_on b t n env) v e → e.fault ≡ f

-- the policy has this fault at the maximum n, and no other
pub record OnlyFaultIs (b : Basis) (t : PlainTemplate) (n : ℕ) (f : Fault) : Type 0 where
  pub there : HasLevelError b t n f
  pub alone : NoOtherFault b t n f

-- ---- outcomes that differ

-- the condition has one outcome over the part, and another over the store
pub record DiffersIn (t : PlainTemplate) (world : World) (part : Store)
    (in_part in_store : Outcome) : Type 0 where
  pub of_part : eval (with_store world part) (condition_of t) ≡ in_part
  pub of_store : eval world (condition_of t) ≡ in_store
  pub broken : IsSameIn t world part → ⊥

-- the policy meets all premises at n, with this outcome of its check, and the part is the slice of
-- n steps; and yet the outcomes differ
pub record DiffersInSlice (Passed : Basis → PlainTemplate → Type 0) (b : Basis) (t : PlainTemplate)
    (n : ℕ) (world : World) (in_part in_store : Outcome) : Type 0 where
  pub policy : IsAskedPolicy b t world
  pub passes : Passed b t
  pub within : PolicyIsWithinLevel b t n
  pub held : HoldsSlice world.request world.store n (slice_of world n)
  pub differs : DiffersIn t world (slice_of world n) in_part in_store
