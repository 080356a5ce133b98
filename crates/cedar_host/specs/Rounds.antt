-- Ids of a slice, found in rounds by a host that asks its own store: the ids that were handed in, and
-- those that are found by then.
use Rattle.std.specs.Prelude.{◌≡◌, ◌⊎◌, ℕ, zero, suc, ◌-◌, ◌≤◌, ◌<◌, List, [], ◌∷◌, ◌++◌, map}
use Rattle.std.specs.List.{flat_map}
use Rattle.cedar_types.specs.Names.{Uid, uid_of}
use Rattle.cedar_types.specs.Schemas.Declarations.{uids_of}
use Rattle.cedar_types.specs.Values.Stores.{Store, entity_at}
use Rattle.cedar_typechecker.specs.Slices.Reach.{ids_of}
use Rattle.cedar_typing.specs.Evaluation.Conformance.{IsOneOf}
use Rattle.cedar_host.specs.declared.rounds.Rounds.{Rounds}
use Rattle.cedar_host.specs.Loading.{AreAmong, ids_below, LoadsSlices}

-- ---- the ids that were handed in

-- the ids whose entries were asked for in a round, and the ids that were handed in for them
pub record Round : Type 0 where
  pub asked : List Uid
  pub held : List Uid

-- for each id that was asked, all answers were handed in
abbrev pub AreAnswered : (Uid → List Uid) → List Round → Type 0
AreAnswered answered done =
    (d : Round) → IsOneOf d done → (u : Uid) → IsOneOf u d.asked → AreAmong (answered u) d.held

-- the entries of the ids that were asked hold no id beyond those that were handed in for them
abbrev pub HoldNoMore : Store → List Round → Type 0
HoldNoMore store done = AreAnswered (λ u. ids_of (entity_at store u)) done

-- ---- the ids that the rounds have

abbrev pub ids_in : Rounds → List Uid
ids_in r = uids_of r.ids

abbrev pub wanted_in : Rounds → List Uid
wanted_in r = map uid_of r.wanted.items

-- the steps behind the round
abbrev pub left_in : Rounds → ℕ
left_in r = r.left

-- ---- the ids that are found

-- the ids that are found for these answers when some steps are left
pub record HaveFound (answered : Uid → List Uid) (start : List Uid) (steps left : ℕ)
    (ids wanted : List Uid) : Type 0 where
  -- the ids that are reached in as many steps as were made
  pub reached : AreAmong (ids_below answered start (steps - left)) ids
  -- unless this round is the last, the answers for each id that is not wanted now
  pub followed : 0 < left → (u : Uid) → IsOneOf u ids → AreAmong (answered u) ids ⊎ IsOneOf u wanted

-- rounds that began with this start, after these were done, whatever the answers are within the ids that
-- were handed in
pub record AreAfter (start : List Uid) (steps : ℕ) (done : List Round) (r : Rounds) : Type 0 where
  pub found : (answered : Uid → List Uid) → AreAnswered answered done
      → HaveFound answered start steps (left_in r) (ids_in r) (wanted_in r)
  -- the first round makes a step
  pub fewer : left_in r ≤ steps - 1
  -- only ids that were handed in are found
  pub only : AreAmong (ids_in r) (start ++ flat_map (λ (d : Round). d.held) done)

-- a round is done. Ids that are handed in after the last round do not count
abbrev pub one_more : ℕ → Round → List Round → List Round
one_more zero d done = done
one_more (suc left) d done = done ++ d ∷ []

abbrev pub with_round : Rounds → List Uid → List Round → List Round
with_round r held = one_more (left_in r) (record { asked = wanted_in r; held = held })

-- if no id is wanted, a loaded part with these ids has the slice of every store whose entries hold no id
-- beyond those that were handed in
abbrev pub FindSlices : Rounds → List Uid → Type 0
FindSlices r ids =
    wanted_in r ≡ [] → (start : List Uid) (steps : ℕ) (done : List Round) → AreAfter start steps done r
    → (store : Store) → HoldNoMore store done → LoadsSlices store start steps ids
