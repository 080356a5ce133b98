-- A part that holds the slice of a store holds that of each smaller store between both.
use Rattle.std.proofs.Common.{◌≡◌, ℕ, zero, suc, ◌<◌, Option, Some, None, refl, sym, ◌∙◌, subst, arith}
use Rattle.cedar_types.specs.Names.{Uid}
use Rattle.cedar_types.specs.Schemas.{uid_is_among}
use Rattle.cedar_types.specs.Values.Stores.{Entity, Store, entity_at}
use Rattle.cedar_typing.specs.Evaluation.Conformance.{IsOneOf}
use Rattle.cedar_typing.specs.Evaluation.World.{Request}
use Rattle.cedar_typing.proofs.Basics.Members.{in_flat, all_flat}
use Rattle.cedar_typechecker.specs.Slices.Reach.{ids_of, reach, reach_below, IsPartOf, HoldsSlice}
use Rattle.cedar_typechecker.proofs.Levels.Inclusions.{in_either}
use Rattle.cedar_typechecker.proofs.Slices.Stores.{agrees, passes, slices_hold}
use Rattle.cedar_host.specs.Loading.{AreAmong}
use Rattle.cedar_host.proofs.AddedIds.{among}

-- an entity that is reached in fewer than n steps is reached in some number of them
some_step : (r : Request) (store : Store) (n : ℕ) (u : Uid) → IsOneOf u (reach_below r store n)
    → (j : ℕ) × (j < n) × IsOneOf u (reach r store j)
some_step r store zero u h = absurd h
some_step r store (suc n) u h =
    in_either (reach_below r store n) (reach r store n) u ((j : ℕ) × (j < suc n) × IsOneOf u (reach r store j)) h
    (λ i. let s = some_step r store n u i in (s.0, omega (arith, s.1), s.2)) (λ i. (n, omega arith, i))

module _ (r : Request) (kept whole : Store) (smaller : IsPartOf kept whole) where
  -- an entity of the smaller store holds only ids that it holds in the whole store
  held_too : (u : Uid) → AreAmong (ids_of (entity_at kept u)) (ids_of (entity_at whole u))
  held_too u = by (entity_at kept u) (smaller u)
    where
      by : (o : Option Entity) → ((e : Entity) → o ≡ Some e → entity_at whole u ≡ Some e)
          → AreAmong (ids_of o) (ids_of (entity_at whole u))
      by None h v i = absurd i
      by (Some e) h v i = subst (λ (p : Option Entity). IsOneOf v (ids_of p)) (sym (h e refl)) i

  -- so no more is reached in it
  reached_too : (n : ℕ) → AreAmong (reach r kept n) (reach r whole n)
  reached_too zero = λ u h. h
  reached_too (suc n) =
      all_flat (λ u. ids_of (entity_at kept u)) (λ u. IsOneOf u (reach r whole (suc n))) (reach r kept n)
      (λ b i u h. in_flat (λ v. ids_of (entity_at whole v)) u b (reach r whole n) (reached_too n b i) (held_too b u h))

  pub holds_slice_too : (n : ℕ) (part : Store) → HoldsSlice r whole n part → IsPartOf part kept → HoldsSlice r kept n part
  holds_slice_too n part holds loaded = record {
    of_store = loaded;
    of_slice = λ u e h.
        let below = reach_below r kept n in
        let s = some_step r kept n u (among below u (passes (uid_is_among below) kept u e h)) in
        (agrees r whole part n holds).same s.0 u (s.0, omega arith, reached_too s.0 u s.2) s.1
        ∙ smaller u e ((slices_hold r kept n).0.of_store u e h);
  }
