-- The promises of typing on evaluation.
use Rattle.std.specs.Prelude.{◌≡◌, ℕ, false, List, Option, Some, None, IsTrue}
use Rattle.cedar_types.specs.declared.base.types.BoolType.TheVariants.{True}
use Rattle.cedar_types.specs.Types.{Ty, TBool}
use Rattle.cedar_types.specs.Errors.{Finding}
use Rattle.cedar_types.specs.Extensions.Functions.{table_fault}
use Rattle.cedar_types.specs.Schemas.{has_fault}
use Rattle.cedar_types.specs.Values.{Value, OnBool, HasType}
use Rattle.cedar_types.specs.Values.Stores.{ConformingStore}
use Rattle.cedar_typing.specs.Capabilities.{Caps}
use Rattle.cedar_typing.specs.Evaluation.Conformance.{Fits, IsEnvironmentOf, SlotsBound, has_external, KeepsTable, AllHold}
use Rattle.cedar_typing.specs.Evaluation.Eval.{eval}
use Rattle.cedar_typing.specs.Evaluation.World.{World, Failure, TypeFailure, AbsentAttribute, AbsentTag, MissingEntity, Overflow}
use Rattle.cedar_typing.specs.Evaluation.World.{ExtensionFailure, UnlinkedSlot, UnknownValue, Outcome, Gives, Fails}
use Rattle.cedar_typing.specs.Modes.{IsSoundMode, IsFormedFor}
use Rattle.cedar_typing.specs.Rules.{Derives, Recovers}
use Rattle.cedar_typing.specs.Setting.{Setting, table}
use Rattle.cedar_typing.specs.TypedExpr.{Source, TypedTree, annotation}
pub mod PolicyCheck
pub mod Policies

-- ---- outcomes

-- P holds of the value, if there is one
abbrev pub OnValue : (Value → Type 0) → Outcome → Type 0
OnValue P (Gives v) = P v
OnValue P (Fails f) = Unit {0}

-- the value, if there is one, has the type, if there is one
abbrev pub HasFound : Option Ty → Outcome → Type 0
HasFound None o = Unit {0}
HasFound (Some t) o = OnValue (HasType t) o

-- only a missing entity, an overflow or an extension function may be the failure
abbrev pub IsAllowed : Failure → Type 0
IsAllowed TypeFailure = ⊥
IsAllowed AbsentAttribute = ⊥
IsAllowed AbsentTag = ⊥
IsAllowed MissingEntity = Unit {0}
IsAllowed Overflow = Unit {0}
IsAllowed ExtensionFailure = Unit {0}
IsAllowed UnlinkedSlot = ⊥
IsAllowed UnknownValue = ⊥

-- a value, or an allowed failure
abbrev pub IsSafe : Outcome → Type 0
IsSafe (Gives v) = Unit {0}
IsSafe (Fails f) = IsAllowed f

abbrev pub IsTrueOutcome : Outcome → Type 0
IsTrueOutcome (Gives v) = OnBool IsTrue v
IsTrueOutcome (Fails f) = ⊥

-- ---- type soundness with capabilities

-- the promise on an expression in a world, if some capabilities are known
pub record IsSoundAt (s : Setting) (world : World) (e : Source) (prior : Caps)
    (d : ℕ) : Type 0 where
  -- a value has the type that was found, also that of a refused expression
  pub typed : (t : Ty) (c : Caps) (x : TypedTree) → Derives s e prior d t c x
      → HasFound (annotation x) (eval world e)
  pub recovered : (x : TypedTree) (es : List Finding) → Recovers s e prior d x es
      → HasFound (annotation x) (eval world e)
  -- a typed expression gives a value or fails in an allowed way
  pub safe : (t : Ty) (c : Caps) (x : TypedTree) → Derives s e prior d t c x → IsSafe (eval world e)
  -- the capabilities of an expression hold if it is true
  pub caps_hold_if_true : (t : Ty) (c : Caps) (x : TypedTree) → Derives s e prior d t c x
      → IsTrueOutcome (eval world e) → AllHold world c
  -- the capabilities of an expression of the type True hold, even if it is not evaluated
  pub caps_hold_at_true : (c : Caps) (x : TypedTree) → Derives s e prior d (TBool True) c x
      → AllHold world c

-- a world in which typing by this setting can be relied on
pub record IsWorldOf (s : Setting) (world : World) : Type 0 where
  pub environment : Fits s.env.request_env world.request world.slots
  pub store : ConformingStore s.env.schema world.store
  pub functions : KeepsTable (table s) world.functions

-- typing by this setting promises something of evaluation: in Strict or in Permissive, by a schema
-- without external declarations, in one of its environments
pub record IsReliable (s : Setting) : Type 0 where
  pub mode : IsSoundMode s.env.mode
  pub closed : has_external s.env.schema ≡ false
  pub environment : IsEnvironmentOf s.env.schema s.env.request_env

-- Holds for each expression whose slots are bound, with known capabilities, by a schema and a table
-- without faults, in a reliable setting and one of its worlds
abbrev pub InReliableWorlds : (Setting → World → Source → Caps → ℕ → Type 0) → Type 0
InReliableWorlds Holds =
    (s : Setting) (world : World)
    → has_fault s.env.schema ≡ false → IsFormedFor s.env.mode s.env.schema
    → table_fault s.functions ≡ None
    → IsReliable s → IsWorldOf s world
    → (e : Source) → SlotsBound world.slots e
    → (prior : Caps) (d : ℕ) → AllHold world prior
    → Holds s world e prior d

-- type soundness: a typed expression does not go wrong
abbrev pub TypeSoundness : Type 0
TypeSoundness = InReliableWorlds IsSoundAt
