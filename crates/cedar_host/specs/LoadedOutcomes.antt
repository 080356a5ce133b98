-- Evaluation over the entities that a host loaded: its results are those over the whole store.
use Rattle.std.specs.Prelude.{◌≡◌, ℕ, false, List}
use Rattle.cedar_types.specs.Names.{Uid}
use Rattle.cedar_types.specs.Templates.{PlainTemplate, condition_of}
use Rattle.cedar_types.specs.Values.Stores.{Store}
use Rattle.cedar_typechecker.specs.Slices.Policies.{IsSameIn}
use Rattle.cedar_typechecker.specs.Slices.Reach.{reach, IsPartOf, HoldsSlice}
use Rattle.cedar_typechecker.specs.Slices.Soundness.{with_store}
use Rattle.cedar_typing.specs.Evaluation.Conformance.{has_external}
use Rattle.cedar_typing.specs.Evaluation.Eval.{eval}
use Rattle.cedar_typing.specs.Evaluation.World.{World}
use Rattle.cedar_typing.specs.Soundness.Policies.{Basis, IsWellFormed, IsConforming}
use Rattle.cedar_typing.specs.Soundness.PolicyCheck.{IsBooleanOrAllowed}
use Rattle.cedar_host.specs.Loading.{AreAmong, IsLoaded, LoadsSlices}
use Rattle.cedar_host.specs.Responses.{LinkedPolicy, response, NeedSliceAlone, AreWellFormed}
use Rattle.cedar_host.specs.Slices.{NeedsSliceAlone}

-- the part was loaded for the world's request, with the ids that were found from a start that has the
-- request's own ids
pub record IsLoadedFor (world : World) (steps : ℕ) (part : Store) : Type 0 where
  pub start : List Uid
  pub ids : List Uid
  pub found : LoadsSlices world.store start steps ids
  pub own : AreAmong (reach world.request world.store 0) start
  pub loaded : IsLoaded world.store ids part

-- a policy that needs only the slice evaluates over the part as over the whole store
abbrev pub LoadedGiveTheSame : Type 0
LoadedGiveTheSame =
    (b : Basis) (t : PlainTemplate) (steps : ℕ) → NeedsSliceAlone b t steps
    → has_external b.schema ≡ false
    → (world : World) → IsWellFormed t world.slots → IsConforming b world
    → (part : Store) → IsLoadedFor world steps part → IsSameIn t world part

-- an authoriser with such policies answers alike: decision, determining policies and errors
abbrev pub LoadedRespondTheSame : Type 0
LoadedRespondTheSame =
    (b : Basis) (steps : ℕ) (ps : List LinkedPolicy) → NeedSliceAlone b steps ps
    → has_external b.schema ≡ false
    → (world : World) → AreWellFormed ps → IsConforming b world
    → (part : Store) → IsLoadedFor world steps part
    → response (with_store world part) ps ≡ response world ps

-- ---- where the host never sees its whole store

-- a part conforms, beside some other entries of the store, as those of the actions: whatever the rest of the store is
pub record ConformsAsLoaded (b : Basis) (world : World) (part : Store) : Type 0 where
  pub kept : Store
  pub loaded : IsPartOf part kept
  pub stored : IsPartOf kept world.store
  pub conforming : IsConforming b (with_store world kept)

-- then a policy that needs the slice alone evaluates, in a part that has it, to a boolean, or fails only for a missing entity,
-- an overflow or an extension function
abbrev pub OnlyLoadedNeedConform : Type 0
OnlyLoadedNeedConform =
    (b : Basis) (t : PlainTemplate) (steps : ℕ) → NeedsSliceAlone b t steps
    → has_external b.schema ≡ false
    → (world : World) → IsWellFormed t world.slots
    → (part : Store) → HoldsSlice world.request world.store steps part → ConformsAsLoaded b world part
    → IsBooleanOrAllowed (eval (with_store world part) (condition_of t))
