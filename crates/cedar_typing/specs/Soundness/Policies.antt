-- The promises on a policy that passes, and on one that is warned to be impossible.
use Rattle.std.specs.Prelude.{◌≡◌, Bool, true, false, List, [], None}
use Rattle.cedar_types.specs.declared.base.types.ValidationMode.{ValidationMode}
use Rattle.cedar_types.specs.Errors.{Finding, Warning}
use Rattle.cedar_types.specs.Extensions.Functions.{table_fault}
use Rattle.cedar_types.specs.Extensions.{ExtensionTable}
use Rattle.cedar_types.specs.Templates.Findings.{unknown_types, unknown_actions}
use Rattle.cedar_types.specs.Environments.Linking.{checked_envs}
use Rattle.cedar_types.specs.Names.{Text}
use Rattle.cedar_types.specs.Environments.RequestEnvs.{Env}
use Rattle.cedar_types.specs.Schemas.{Schema, has_fault}
use Rattle.cedar_types.specs.Values.Stores.{ConformingStore}
use Rattle.cedar_types.specs.Templates.{PlainTemplate, condition_of}
use Rattle.cedar_typing.specs.Composition.{SlotsInScopeAlone}
use Rattle.cedar_typing.specs.Evaluation.Conformance.{IsOneOf, ConformingRequest, SlotsBound, has_external, KeepsTable}
use Rattle.cedar_typing.specs.Evaluation.Eval.{eval}
use Rattle.cedar_typing.specs.Evaluation.World.{Slots, World}
use Rattle.cedar_typing.specs.Modes.{IsSoundMode, IsFormedFor}
use Rattle.cedar_typing.specs.PolicyCheck.{PolicyChecks}
use Rattle.cedar_typing.specs.PolicyCheck.Outcome.{impossible, PolicyOutcome}
use Rattle.cedar_typing.specs.Setting.{Setting}
use Rattle.cedar_typing.specs.Silence.{HasNoUnknowns}
use Rattle.cedar_typing.specs.Soundness.PolicyCheck.{IsBooleanOrAllowed}
use Rattle.cedar_typing.specs.Soundness.{IsTrueOutcome}

-- the basis of a checker, whatever the policy and the environment
pub record Basis : Type 0 where
  pub schema : Schema
  pub mode : ValidationMode
  pub table : ExtensionTable

-- ---- the premises

-- of the checker: it is in Strict or in Permissive, and nothing of its schema is external
pub record IsSoundAndClosed (b : Basis) : Type 0 where
  pub mode : IsSoundMode b.mode
  pub closed : has_external b.schema ≡ false

-- of the names in the policy: the passes over types and over actions find none that the schema does
-- not have
pub record IsNamedBySchema (s : Schema) (t : PlainTemplate) : Type 0 where
  pub types : unknown_types s t ≡ []
  pub actions : unknown_actions s t ≡ []

-- of the policy and its links: it has no unknowns, its slots stand in the scope alone, and each
-- that occurs is bound, to any entity
pub record IsWellFormed (t : PlainTemplate) (slots : Slots) : Type 0 where
  pub no_unknowns : HasNoUnknowns (condition_of t)
  pub slots_in_scope : SlotsInScopeAlone t
  pub bound : SlotsBound slots (condition_of t)

-- of the world: its request and its store conform to the schema, and its extension functions keep
-- the table
pub record IsConforming (b : Basis) (world : World) : Type 0 where
  pub request : ConformingRequest b.schema world.request
  pub store : ConformingStore b.schema world.store
  pub functions : KeepsTable b.table world.functions

-- ---- the promises

-- where the policy passes, its condition evaluates to a boolean, or fails only for a missing
-- entity, an overflow or an extension call
abbrev pub PolicyIsSafe : Basis → PlainTemplate → Bool → Type 0
PolicyIsSafe b t passes =
    passes ≡ true → IsSoundAndClosed b → IsNamedBySchema b.schema t
    → (world : World) → IsWellFormed t world.slots → IsConforming b world
    → IsBooleanOrAllowed (eval world (condition_of t))

-- where the warning that it is impossible is new among the warnings, its condition is never true,
-- whether or not its slots are bound
abbrev pub ImpossibleIsNeverTrue : Basis → PlainTemplate → List Warning → List Warning → Type 0
ImpossibleIsNeverTrue b t old new =
    (IsOneOf (impossible t) old → ⊥) → IsOneOf (impossible t) new
    → IsSoundAndClosed b → SlotsInScopeAlone t
    → (world : World) → IsConforming b world
    → IsTrueOutcome (eval world (condition_of t)) → ⊥

-- ---- where they come from

-- the setting in which a policy of this name is typed, in an environment
abbrev pub setting_on : Basis → Text → Env → Setting
setting_on b policy env = record {
  env = record {
    schema = b.schema;
    mode = b.mode;
    request_env = env;
    overloaded_types = b.table.overloaded_types;
    policy = policy;
  };
  functions = b.table.functions;
}

-- the outcome of the policy's check in all of its environments
abbrev pub CheckedOn : Basis → PlainTemplate → Bool
    → List Finding → List Finding → List Warning → List Warning → Type 0
CheckedOn b t =
    PolicyOutcome (λ env. PolicyChecks (setting_on b t.id env) (condition_of t))
    (checked_envs b.schema b.mode t) t

-- both promises
pub record AreBothKept (b : Basis) (t : PlainTemplate) (passes : Bool) (old new : List Warning) :
    Type 0 where
  pub safe : PolicyIsSafe b t passes
  pub never_true : ImpossibleIsNeverTrue b t old new

-- by a schema and a table without faults, as all are that the program makes, both follow from that
-- alone
abbrev pub PromisesAreKept : Type 0
PromisesAreKept =
    (b : Basis) (t : PlainTemplate)
    → has_fault b.schema ≡ false → IsFormedFor b.mode b.schema
    → table_fault b.table.functions ≡ None
    → (passes : Bool) (errors errors' : List Finding) (old new : List Warning)
    → CheckedOn b t passes errors errors' old new → AreBothKept b t passes old new
