-- The state of a loader after one round more, and at its end.
use Rattle.std.proofs.Common.{◌≡◌, ℕ, zero, suc, ◌+◌, ◌<◌, inl, inr, false, List, [], ◌∷◌, ◌++◌, map, take, length, get_or}
use Rattle.std.proofs.Common.{Option, Some, None, refl, sym, ap, ◌∙◌, subst, if◌then◌else◌}
use Rattle.std.specs.List.{flat_map}
use Rattle.cedar_types.proofs.Schema.Places.{next_mapped}
use Rattle.cedar_types.specs.Names.{Uid, uid_eq}
use Rattle.cedar_types.specs.Schemas.Declarations.{uids_of}
use Rattle.cedar_types.specs.Values.Stores as store
use Rattle.cedar_types.specs.Values.Stores.{Store, entity_at}
use Rattle.cedar_typechecker.specs.Slices.Reach.{ids_of, reach}
use Rattle.cedar_typechecker.proofs.Levels.Inclusions.{in_either}
use Rattle.cedar_typing.specs.Evaluation.Conformance.{IsOneOf}
use Rattle.cedar_typing.proofs.Basics.Members.{in_right, in_flat}
use Rattle.cedar_conformance.specs.declared.requests.Request.{Request}
use Rattle.cedar_conformance.specs.declared.entities.Entities.{Entities}
use Rattle.cedar_conformance.specs.Entities.{store_of}
use Rattle.cedar_conformance.specs.Requests.{request_of}
use Rattle.cedar_host.specs.declared.loaders.Loaded.{Loaded}
use Rattle.cedar_host.specs.declared.loaders.Loader.{Loader}
use Rattle.cedar_host.specs.Loaders.{IsLoaderAfter, HoldsSliceOf, IsLoaderOf, held_in, wanted_of}
use Rattle.cedar_host.specs.Loading.{AreAmong, AreNew}
use Rattle.cedar_host.specs.Rounds.{Round, AreAfter, HoldNoMore, FindSlices, one_more, with_round, ids_in, left_in}
use Rattle.cedar_host.proofs.HandedIn.{answered_too}
use Rattle.cedar_host.proofs.SetLevels.{in_taken}

-- an element at an index is a member
pub at_index : {A B : Type 0} (f : A → B) (xs : List A) (i : ℕ) (x : A) → i < length xs → x ≡ get_or xs i x
    → IsOneOf (f x) (map f xs)
at_index f xs i x below is =
    in_taken f (i + 1) xs (f x)
    (subst (IsOneOf (f x)) (sym (next_mapped f xs i x below is))
    (in_right (f x) (map f (take i xs)) (f x ∷ []) (inl refl)))

-- an entry of another id changes nothing
pub missed : (s : Store) (k : Uid) (e : store.Entity) (u : Uid) → uid_eq u k ≡ false
    → entity_at (s ++ (k, e) ∷ []) u ≡ entity_at s u
missed [] k e u h = ap (λ b. if◌then◌else◌ {A = Option store.Entity} b (Some e) None) h
missed (x ∷ s) k e u h =
    ap (λ o. if◌then◌else◌ {A = Option store.Entity} (uid_eq u x.0) (Some x.1) o) (missed s k e u h)

-- ---- one round more

-- a property of the earlier rounds and of this one holds of all
of_one_more : (P : Round → Type 0) (left : ℕ) (d : Round) (done : List Round)
    → ((e : Round) → IsOneOf e done → P e) → P d → (e : Round) → IsOneOf e (one_more left d done) → P e
of_one_more P zero d done ok this e i = ok e i
of_one_more P (suc n) d done ok this e i =
    in_either done (d ∷ []) e (P e) i (ok e)
    (elim [ inl q ↦ subst P (sym q) this | inr j ↦ absurd j ])

module _ (start : List Uid) (steps : ℕ) (l next : Loader) (held : List Uid)
    (handed : (done : List Round) → AreAfter start steps done l.rounds
    → AreAfter start steps (with_round l.rounds held done) next.rounds)
    (fresh : AreNew (wanted_of next) (ids_in l.rounds)) (found : AreAmong (wanted_of next) (ids_in next.rounds))
    (kept : AreAmong (ids_in l.rounds) (ids_in next.rounds))
    (others : (u : Uid) → (IsOneOf u (wanted_of l) → ⊥)
    → entity_at (store_of next.entities) u ≡ entity_at (store_of l.entities) u)
    (told : held ≡ flat_map (held_in (store_of next.entities)) (wanted_of l)) where
  abbrev this : Round
  this = record { asked = wanted_of l; held = held }

  abbrev IsAsked : Round → Type 0
  IsAsked d =
      (u : Uid) → IsOneOf u d.asked
      → IsOneOf u (ids_in next.rounds) × (IsOneOf u (wanted_of next) → ⊥)

  -- an id that was found before stays found, and is not wanted again
  stays : (u : Uid) → IsOneOf u (ids_in l.rounds)
      → IsOneOf u (ids_in next.rounds) × (IsOneOf u (wanted_of next) → ⊥)
  stays u i = (kept u i, λ w. fresh u w i)

  now_held : (u : Uid) → IsOneOf u (wanted_of l) → AreAmong (held_in (store_of next.entities) u) held
  now_held u i v k =
      subst (IsOneOf v) (sym told) (in_flat (held_in (store_of next.entities)) v u (wanted_of l) i k)

  module _ (done : List Round) (b : IsLoaderAfter start steps done l) where
    still_held : HoldNoMore (store_of next.entities) done
    still_held d i u k =
        subst (λ (e : Option store.Entity). AreAmong (ids_of e) d.held)
        (sym (others u (b.asked d i u k).1)) (b.held d i u k)

    after_this : IsLoaderAfter start steps (with_round l.rounds held done) next
    after_this = record {
      after = handed done b.after;
      found = found;
      asked = of_one_more IsAsked (left_in l.rounds) this done
          (λ d i u k. stays u (b.asked d i u k).0) (λ u k. stays u (b.found u k));
      held = answered_too (held_in (store_of next.entities)) (left_in l.rounds) this done still_held now_held;
    }

  pub goes_on : (done : List Round) × IsLoaderAfter start steps done l
      → (done : List Round) × IsLoaderAfter start steps done next
  goes_on b = (with_round l.rounds held b.0, after_this b.0 b.1)

-- ---- at the end

pub holds_slice : (request : Request) (steps : ℕ) (l : Loader) (loaded : Loaded) → IsLoaderOf request steps l
    → uids_of loaded.ids ≡ ids_in l.rounds → loaded.entities ≡ l.entities
    → FindSlices l.rounds (uids_of loaded.ids) → wanted_of l ≡ [] → HoldsSliceOf request steps loaded
holds_slice request steps l loaded b same kept find none whole is_loaded =
    find none (reach (request_of request) [] 0) steps b.0 b.1.after whole no_more (request_of request) (λ u h. h)
    (store_of loaded.entities) is_loaded
  where
    no_more : HoldNoMore whole b.0
    no_more d i u k =
        let asked : IsOneOf u (uids_of loaded.ids) = subst (IsOneOf u) (sym same) (b.1.asked d i u k).0 in
        let there : entity_at (store_of l.entities) u ≡ entity_at whole u =
        ap (λ (es : Entities). entity_at (store_of es) u) (sym kept) ∙ is_loaded.of_ids u asked in
        subst (λ (e : Option store.Entity). AreAmong (ids_of e) d.held) there (b.1.held d i u k)
