-- The guarantees on a policy for a host that goes on with typed conditions.
use Rattle.std.specs.Prelude.{◌≡◌, false, None}
use Rattle.cedar_types.specs.Environments.{DeclaredEnv, environments_of}
use Rattle.cedar_types.specs.Environments.Linking.{checked_envs}
use Rattle.cedar_types.specs.Environments.RequestEnvs.{Env}
use Rattle.cedar_types.specs.Extensions.Functions.{table_fault}
use Rattle.cedar_types.specs.Schemas.{has_fault}
use Rattle.cedar_types.specs.Templates.{PlainTemplate, condition_of}
use Rattle.cedar_typing.specs.Composition.{SlotsInScopeAlone, own_env}
use Rattle.cedar_typing.specs.Evaluation.Conformance.{IsOneOf, FitsRequest, IsEnvironmentOf}
use Rattle.cedar_typing.specs.Evaluation.World.{World}
use Rattle.cedar_typing.specs.Modes.{IsFormedFor}
use Rattle.cedar_typing.specs.PolicyCheck.{Verdict, PolicyChecks}
use Rattle.cedar_typing.specs.Soundness.{IsWorldOf}
use Rattle.cedar_typing.specs.Soundness.Policies.{Basis, IsSoundAndClosed, IsConforming, setting_on}
use Rattle.cedar_typing.specs.TypedCopies.{VerdictMeansTheSame}

-- the typed condition of each verdict of a policy in an environment evaluates as the policy's
-- condition does in the world
abbrev pub MeansTheSameOn : Basis → PlainTemplate → Env → World → Type 0
MeansTheSameOn b t env world =
    (v : Verdict) → PolicyChecks (setting_on b t.id env) (condition_of t) v
    → VerdictMeansTheSame world (condition_of t) v

-- ---- in an environment that fits, whatever its slots are linked to

-- in each world of an environment of the schema
abbrev pub FittingCopiesMeanTheSame : Basis → PlainTemplate → Type 0
FittingCopiesMeanTheSame b t =
    IsSoundAndClosed b
    → (env : Env) → IsEnvironmentOf b.schema env
    → (world : World) → IsWorldOf (setting_on b t.id env) world
    → MeansTheSameOn b t env world

-- ---- in the own environment, whatever the slots are bound to

-- of the environment of a request of the schema that links each slot to its variable's own type: in
-- each world that conforms, where the slots stand in the scope alone, bound to any entities or to
-- none
abbrev pub OwnCopiesMeanTheSame : Basis → PlainTemplate → Type 0
OwnCopiesMeanTheSame b t =
    IsSoundAndClosed b → SlotsInScopeAlone t
    → (world : World) → IsConforming b world
    → (d : DeclaredEnv) → IsOneOf d (environments_of b.schema.actions) → FitsRequest d world.request
    → MeansTheSameOn b t (own_env t d) world

-- that environment is one of those that are checked: so in each world that conforms, one of the
-- typed conditions that the checks of the policy have evaluates as the template's condition does
abbrev pub SomeCopyMeansTheSame : Basis → PlainTemplate → Type 0
SomeCopyMeansTheSame b t =
    IsSoundAndClosed b → SlotsInScopeAlone t
    → (world : World) → IsConforming b world
    → (env : Env) × IsOneOf env (checked_envs b.schema b.mode t) × MeansTheSameOn b t env world

-- ---- of every policy

pub record PolicyCopiesMeanTheSame (b : Basis) (t : PlainTemplate) : Type 0 where
  pub fitting : FittingCopiesMeanTheSame b t
  pub own : OwnCopiesMeanTheSame b t
  pub some : SomeCopyMeansTheSame b t

-- by a schema and a table without faults, as all are that the program makes
abbrev pub ConditionsMeanTheSame : Type 0
ConditionsMeanTheSame =
    (b : Basis) (t : PlainTemplate)
    → has_fault b.schema ≡ false → IsFormedFor b.mode b.schema
    → table_fault b.table.functions ≡ None
    → PolicyCopiesMeanTheSame b t
