-- The promise of the level rules for an expression: without a level error at n, it evaluates over
-- each part of a store that has the slice of n steps as over the whole store.
use Rattle.std.specs.Prelude.{◌≡◌, ℕ, ◌≤◌, false, List, [], ◌∷◌, Option, Some, None}
use Rattle.cedar_types.specs.Extensions.Functions.{table_fault}
use Rattle.cedar_types.specs.Names.{Text, Uid}
use Rattle.cedar_types.specs.Schemas.{has_fault}
use Rattle.cedar_types.specs.Values.Stores.{Store}
use Rattle.cedar_types.specs.Types.{Ty}
use Rattle.cedar_types.specs.Values.{Value, VEntity, VRecord, entry_at}
use Rattle.cedar_typing.specs.Capabilities.{Caps}
use Rattle.cedar_typing.specs.Evaluation.Conformance.{IsOneOf, SlotsBound, AllHold}
use Rattle.cedar_typing.specs.Evaluation.Eval.{eval}
use Rattle.cedar_typing.specs.Evaluation.World.{World}
use Rattle.cedar_typing.specs.Modes.{IsFormedFor}
use Rattle.cedar_typing.specs.Setting.LinkedSlots.{LinksBothSlots}
use Rattle.cedar_typing.specs.Rules.{Derives}
use Rattle.cedar_typing.specs.Setting.{Setting}
use Rattle.cedar_typing.specs.Soundness.{OnValue, IsReliable, IsWorldOf}
use Rattle.cedar_typing.specs.TypedExpr.{Source, TypedTree}
use Rattle.cedar_typechecker.specs.Levels.Chains.{level}
use Rattle.cedar_typechecker.specs.Levels.Dereferences.{IsTarget}
use Rattle.cedar_typechecker.specs.Levels.Errors.{IsWithinLevel}
use Rattle.cedar_typechecker.specs.Levels.Setting.{LevelSetting, action_of}
use Rattle.cedar_typechecker.specs.Slices.Reach.{ids_in, reach, HoldsSlice}

-- the world with another store
abbrev pub with_store : World → Store → World
with_store world part = record world { store = part }

-- the setting of levels that belongs to a setting of typing, at the maximum n
abbrev pub levels_in : Setting → ℕ → LevelSetting
levels_in s n = record {
  action = action_of s.env.request_env;
  schema = s.env.schema;
  maximum = n;
  policy = s.env.policy;
}

-- ---- the premises

-- typing can be relied on in the world, and a part of its store holds the slice of n steps. Both
-- slots are linked, because an unlinked slot has the type any entity, whose attributes extended
-- `has` may test without a level error
pub record IsSliced (s : Setting) (world : World) (n : ℕ) (part : Store) : Type 0 where
  pub schema : has_fault s.env.schema ≡ false
  pub formed : IsFormedFor s.env.mode s.env.schema
  pub functions : table_fault s.functions ≡ None
  pub setting : IsReliable s
  pub links : LinksBothSlots s.env.request_env
  pub reliable : IsWorldOf s world
  pub slice : HoldsSlice world.request world.store n part

-- ---- the promises

-- each expression that has a type and no level error at n evaluates over the part as over the
-- store, with any prior capabilities that hold, and at any depth
abbrev pub EvaluatesAlike : Setting → World → ℕ → Store → Type 0
EvaluatesAlike s world n part =
    (e : Source) → SlotsBound world.slots e
    → (prior : Caps) (d : ℕ) → AllHold world prior
    → (t : Ty) (c : Caps) (x : TypedTree) → Derives s e prior d t c x
    → IsWithinLevel (levels_in s n) x
    → eval (with_store world part) e ≡ eval world e

abbrev pub ids_found : (Value → List Uid) → Option Value → List Uid
ids_found ids None = []
ids_found ids (Some v) = ids v

-- the ids in the part of a value that a path selects. An entity stands for itself, whatever
-- attributes are left, because these are in its own entry
abbrev pub ids_along : List Text → Value → List Uid
ids_along [] v = ids_in v
ids_along (x ∷ path) (VRecord es) = ids_found (ids_along path) (entry_at x es)
ids_along (x ∷ path) (VEntity u) = u ∷ []
ids_along (x ∷ path) v = []

-- the id is reached in at most k steps
abbrev pub IsReachedIn : World → ℕ → Uid → Type 0
IsReachedIn world k u =
    (j : ℕ) × (j ≤ k) × IsOneOf u (reach world.request world.store j)

-- the ids that a target's value holds along the path are reached in no more steps than the target's
-- level, if the whole has no level error at n. So if the level is below n, the entry of the entity
-- that is accessed is in the slice
abbrev pub TargetsReach : Setting → World → ℕ → Type 0
TargetsReach s world n =
    (e : Source) → SlotsBound world.slots e
    → (prior : Caps) (d : ℕ) → AllHold world prior
    → (t : Ty) (c : Caps) (x : TypedTree) → Derives s e prior d t c x
    → (root : TypedTree) → IsWithinLevel (levels_in s n) root
    → (path : List Text) → IsTarget (levels_in s n) root x path
    → OnValue (λ v. (u : Uid) → IsOneOf u (ids_along path v)
    → IsReachedIn world (level (levels_in s n).action x path) u) (eval world e)

-- ---- the laws

-- a promise holds for each part that holds the slice, if typing can be relied on
abbrev pub OfEachSlice : (Setting → World → ℕ → Store → Type 0) → Type 0
OfEachSlice P =
    (s : Setting) (world : World) (n : ℕ) (part : Store) → IsSliced s world n part
    → P s world n part

abbrev pub SliceSoundness : Type 0
SliceSoundness = OfEachSlice EvaluatesAlike

abbrev pub TargetsAreReached : Type 0
TargetsAreReached = OfEachSlice (λ s world n part. TargetsReach s world n)
