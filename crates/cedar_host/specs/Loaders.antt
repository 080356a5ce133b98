-- Entities that a host loaded in rounds, and the stores whose slice they have.
use Rattle.std.specs.Prelude.{ℕ, List, []}
use Rattle.cedar_types.specs.Names.{Uid}
use Rattle.cedar_types.specs.Schemas.Declarations.{uids_of}
use Rattle.cedar_types.specs.Values.Stores.{Store, entity_at}
use Rattle.cedar_typechecker.specs.Slices.Reach.{ids_of, reach, HoldsSlice}
use Rattle.cedar_typing.specs.Evaluation.Conformance.{IsOneOf}
use Rattle.cedar_conformance.specs.declared.requests.Request.{Request}
use Rattle.cedar_conformance.specs.Entities.{store_of}
use Rattle.cedar_conformance.specs.Requests.{request_of}
use Rattle.cedar_host.specs.declared.loaders.Loaded.{Loaded}
use Rattle.cedar_host.specs.declared.loaders.Loader.{Loader}
use Rattle.cedar_host.specs.Loading.{AreAmong, IsLoaded}
use Rattle.cedar_host.specs.Rounds.{Round, AreAfter, HoldNoMore, ids_in, left_in, wanted_in}

-- the loaded entities have the slice of n steps of each store that agrees with them on the ids that
-- were asked for
abbrev pub HoldsSliceOf : Request → ℕ → Loaded → Type 0
HoldsSliceOf request n loaded =
    (store : Store) → IsLoaded store (uids_of loaded.ids) (store_of loaded.entities)
    → HoldsSlice (request_of request) store n (store_of loaded.entities)

-- the ids that a store holds in the entity of an id
abbrev pub held_in : Store → Uid → List Uid
held_in store u = ids_of (entity_at store u)

abbrev pub wanted_of : Loader → List Uid
wanted_of l = wanted_in l.rounds

abbrev pub left_of : Loader → ℕ
left_of l = left_in l.rounds

-- a loader that began with these ids and has this many steps, after these rounds
pub record IsLoaderAfter (start : List Uid) (steps : ℕ) (done : List Round) (l : Loader) : Type 0 where
  pub after : AreAfter start steps done l.rounds
  -- wanted ids are found
  pub found : AreAmong (wanted_of l) (ids_in l.rounds)
  -- ids that were asked before are found, and are not wanted again
  pub asked : (d : Round) → IsOneOf d done → (u : Uid) → IsOneOf u d.asked
      → IsOneOf u (ids_in l.rounds) × (IsOneOf u (wanted_of l) → ⊥)
  -- no entity that was asked holds more ids than were followed
  pub held : HoldNoMore (store_of l.entities) done

-- a loader of a request, after some rounds
abbrev pub IsLoaderOf : Request → ℕ → Loader → Type 0
IsLoaderOf request steps l =
    (done : List Round) × IsLoaderAfter (reach (request_of request) [] 0) steps done l
