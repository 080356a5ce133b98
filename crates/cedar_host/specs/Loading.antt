-- Loading for a slice: the ids within some steps of a request, and a store with the entries of these.
use Rattle.std.specs.Prelude.{◌≡◌, ◌⊎◌, ℕ, zero, suc, List, [], ◌++◌}
use Rattle.std.specs.List.{flat_map}
use Rattle.cedar_types.specs.Names.{Uid}
use Rattle.cedar_types.specs.Values.Stores.{Store, entity_at}
use Rattle.cedar_typechecker.specs.Slices.Reach.{reach, IsPartOf, HoldsSlice}
use Rattle.cedar_typing.specs.Evaluation.Conformance.{IsOneOf}
use Rattle.cedar_typing.specs.Evaluation.World.{Request}

-- each of the first ids is one of the second
abbrev pub AreAmong : List Uid → List Uid → Type 0
AreAmong us vs = (u : Uid) → IsOneOf u us → IsOneOf u vs

-- the ids are equal as sets: in any order and however often
pub record AreSame (us vs : List Uid) : Type 0 where
  pub all : AreAmong us vs
  pub only : AreAmong vs us

-- ---- steps, by the ids that a host answers for each id

-- the ids that are reached in exactly n steps: no step gives the start, and one step more gives the
-- answers for the ids before
abbrev pub ids_at : (Uid → List Uid) → List Uid → ℕ → List Uid
ids_at answered start zero = start
ids_at answered start (suc n) = flat_map answered (ids_at answered start n)

-- the ids that are reached in fewer than n steps
abbrev pub ids_below : (Uid → List Uid) → List Uid → ℕ → List Uid
ids_below answered start zero = []
ids_below answered start (suc n) = ids_below answered start n ++ ids_at answered start n

-- ---- the entities that are loaded

-- a part of a store that agrees with it on each of these ids
pub record IsLoaded (store : Store) (ids : List Uid) (part : Store) : Type 0 where
  pub of_store : IsPartOf part store
  pub of_ids : (u : Uid) → IsOneOf u ids → entity_at part u ≡ entity_at store u

-- for each request whose own ids are in the start, a loaded part has the slice of n steps
abbrev pub LoadsSlices : Store → List Uid → ℕ → List Uid → Type 0
LoadsSlices store start n ids =
    (r : Request) → AreAmong (reach r store 0) start
    → (part : Store) → IsLoaded store ids part → HoldsSlice r store n part

-- ---- while ids are found

-- a set gains these ids, and the added ones are told: the new set has the old ids and these, and each of
-- its ids is old or was added; the added ids are among these
pub record AddsNew (old these new added : List Uid) : Type 0 where
  pub kept : AreAmong old new
  pub there : AreAmong these new
  pub only : (u : Uid) → IsOneOf u new → IsOneOf u old ⊎ IsOneOf u added
  pub of_these : AreAmong added these

-- none of the first ids is one of the second
abbrev pub AreNew : List Uid → List Uid → Type 0
AreNew us vs = (u : Uid) → IsOneOf u us → IsOneOf u vs → ⊥
