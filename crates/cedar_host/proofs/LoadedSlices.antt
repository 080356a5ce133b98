-- Slices in a store with the entries of the ids that were found.
use Rattle.std.proofs.Common.{ℕ, zero, suc, List, ◌∙◌}
use Rattle.cedar_types.specs.Names.{Uid}
use Rattle.cedar_types.specs.Schemas.{uid_is_among}
use Rattle.cedar_types.specs.Values.Stores.{Store, entity_at}
use Rattle.cedar_typing.specs.Evaluation.Conformance.{IsOneOf}
use Rattle.cedar_typing.specs.Evaluation.World.{Request}
use Rattle.cedar_typing.proofs.Basics.Members.{in_left, in_right, in_flat, all_flat}
use Rattle.cedar_typechecker.specs.Slices.Reach.{ids_of, reach, reach_below}
use Rattle.cedar_typechecker.proofs.Levels.Inclusions.{in_either}
use Rattle.cedar_typechecker.proofs.Slices.Stores.{passes, slices_hold}
use Rattle.cedar_host.specs.Loading.{AreAmong, AreSame, ids_at, ids_below, LoadsSlices}
use Rattle.cedar_host.proofs.AddedIds.{among}

module _ (answered : Uid → List Uid) (store : Store)
    (complete : (u : Uid) → AreAmong (ids_of (entity_at store u)) (answered u)) (start : List Uid) where
  abbrev At : ℕ → List Uid
  At = ids_at answered start

  abbrev Below : ℕ → List Uid
  Below = ids_below answered start

  module _ (r : Request) (starts : AreAmong (reach r store 0) start) where
    -- the answers reach each id that a request reaches
    reaches : (n : ℕ) → AreAmong (reach r store n) (At n)
    reaches zero = starts
    reaches (suc n) =
        all_flat (λ u. ids_of (entity_at store u)) (λ u. IsOneOf u (At (suc n))) (reach r store n)
        (λ b i u h. in_flat answered u b (At n) (reaches n b i) (complete b u h))

    reaches_below : (n : ℕ) → AreAmong (reach_below r store n) (Below n)
    reaches_below zero = λ u h. absurd h
    reaches_below (suc n) =
        λ u h. in_either (reach_below r store n) (reach r store n) u (IsOneOf u (Below (suc n))) h
        (λ i. in_left u (Below n) (At n) (reaches_below n u i))
        (λ i. in_right u (Below n) (At n) (reaches n u i))

  -- for ids that have at least those that are reached
  pub loads_of : (n : ℕ) (ids : List Uid) → AreAmong (Below n) ids → LoadsSlices store start n ids
  loads_of n ids all r starts part l =
      let below = reach_below r store n in
      record {
        of_store = l.of_store;
        of_slice = λ u e h.
            let there = among below u (passes (uid_is_among below) store u e h) in
            l.of_ids u (all u (reaches_below r starts n u there))
            ∙ (slices_hold r store n).0.of_store u e h;
      }

  pub loads_slices : (n : ℕ) (ids : List Uid) → AreSame (Below n) ids → LoadsSlices store start n ids
  loads_slices n ids same = loads_of n ids same.all
