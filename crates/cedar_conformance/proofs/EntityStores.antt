-- Entity stores: the entity that the entries of a map have at an id, and the effect of one more
-- entry.
use Rattle.std.proofs.Common.{◌≡◌, refl, sym, ap, ◌∙◌, subst, Bool, true, false, true≢false, ◌||◌, cond, List, [], ◌∷◌, ◌++◌, Option, Some, None}
use Rattle.std.proofs.Common.{option_map, is_some, if◌then◌else◌}
use Rattle.std.proofs.lemmas.List.{map_push}
use Rattle.std.specs.BTreeMap.{insert_entry}
use Rattle.std.specs.Borrow.{Bor}
use Rattle.std.specs.List.{AllByRecursion, list_any}
use Rattle.std.specs.List.Sorted.{IsStrictlySortedBy}
use Rattle.std.specs.Map.{lookup, keys_of}
use Rattle.std.proofs.lemmas.Map.Keys.{sorted_head, sorted_tail}
use Rattle.std.specs.Option.{option_copied}
use Rattle.std.specs.Ordering.{is_eq, match_ordering}
use Rattle.std.specs.declared.cmp.Ordering.{Ordering}
use Rattle.std.specs.declared.cmp.Ordering.TheVariants.{Less, Equal, Greater}
use Rattle.cedar_types.specs.Lemmas.Comparisons.{uid_same}
use Rattle.cedar_types.specs.Names.{Uid, uid_of, uid_eq, uid_cmp}
use Rattle.cedar_types.specs.Schemas.{has_repeat}
use Rattle.cedar_types.specs.Values.Stores as store
use Rattle.cedar_types.specs.Values.Stores.{Store, entity_at}
use Rattle.cedar_types.specs.declared.base.names.entities.EntityUID.{EntityUID}
use Rattle.cedar_types.proofs.Names.Ids.{uid_ties, uid_lookup}
use Rattle.cedar_conformance.specs.Entities.{entity_of, stored_of, stored_all, IsSameStore}
use Rattle.cedar_conformance.specs.StoreTests.{IsApart}
use Rattle.cedar_conformance.specs.declared.entities.Entity.{Entity}
use Rattle.cedar_conformance.proofs.Records.{mapped_some}

-- the store has at an id the entity that a lookup in the entries finds
pub stored_at : (es : List (EntityUID × Entity)) (u : Uid)
    → entity_at (stored_all es) u ≡ option_map entity_of (lookup (λ k. uid_eq u (uid_of k)) es)
stored_at [] u = refl
stored_at (e ∷ es) u = at (uid_eq u (uid_of e.0)) (stored_at es u)
  where
    at : (b : Bool) → entity_at (stored_all es) u ≡ option_map entity_of (lookup (λ k. uid_eq u (uid_of k)) es)
        → if◌then◌else◌ {A = Option store.Entity} b (Some (entity_of e.1)) (entity_at (stored_all es) u)
        ≡ option_map entity_of (cond b (Some e.1) (lookup (λ k. uid_eq u (uid_of k)) es))
    at true h = refl
    at false h = h

-- the store has an entity at an id iff a map finds one
pub stored_there : (R : EntityUID → Ordering) (u : Uid) → ((k : EntityUID) → R k ≡ uid_cmp u (uid_of k))
    → (es : List (EntityUID × Entity))
    → is_some (entity_at (stored_all es) u) ≡ is_some (lookup (λ k. is_eq (R k)) es)
stored_there R u h es =
    ap is_some (stored_at es u) ∙ mapped_some entity_of (lookup (λ k. uid_eq u (uid_of k)) es)
    ∙ ap is_some (sym (uid_lookup R u h es))

-- a lent entity is viewed as the entity itself
pub lent : (r : Option (Bor Entity)) → option_map (λ e. entity_of e.now) r ≡ option_map entity_of (option_copied r)
lent None = refl
lent (Some e) = refl

-- ---- one more entry behind the others

abbrev put : Uid → store.Entity → Uid → Option store.Entity → Option store.Entity
put k e u o = if uid_eq u k then Some e else o

-- an entry counts if the store has none of its id
pub pushed : (s : Store) (k : Uid) (e : store.Entity) (u : Uid) → entity_at s k ≡ None
    → entity_at (s ++ (k, e) ∷ []) u ≡ put k e u (entity_at s u)
pushed [] k e u h = refl
pushed (x ∷ s) k e u h = at (uid_eq u x.0) (uid_eq u k) (uid_eq k x.0) refl refl refl h (pushed s k e u)
  where
    at : (b c d : Bool) → uid_eq u x.0 ≡ b → uid_eq u k ≡ c → uid_eq k x.0 ≡ d
        → if◌then◌else◌ {A = Option store.Entity} d (Some x.1) (entity_at s k) ≡ None
        → (entity_at s k ≡ None → entity_at (s ++ (k, e) ∷ []) u ≡ put k e u (entity_at s u))
        → if◌then◌else◌ {A = Option store.Entity} b (Some x.1) (entity_at (s ++ (k, e) ∷ []) u)
        ≡ if◌then◌else◌ {A = Option store.Entity} c (Some e) (if b then Some x.1 else entity_at s u)
    at b c true i j l m n = cc
    at true true false i j l m n =
        let same : uid_eq k x.0 ≡ true = subst (λ w. uid_eq w x.0 ≡ true) (uid_same.to u k j) i in
        absurd (true≢false (sym same ∙ l))
    at true false false i j l m n = refl
    at false c false i j l m n = n m ∙ ap (λ b. if◌then◌else◌ {A = Option store.Entity} b (Some e) (entity_at s u)) j

-- an entry changes nothing if the store has one of its id
pub there_already : (s : Store) (k : Uid) (e : store.Entity) (u : Uid) → is_some (entity_at s k) ≡ true
    → entity_at s u ≡ entity_at (s ++ (k, e) ∷ []) u
there_already [] k e u h = absurd (true≢false (sym h))
there_already (x ∷ s) k e u h = at (uid_eq u x.0) (uid_eq k x.0) refl refl h (there_already s k e u) (missed s k e u)
  where
    missed : (t : Store) (k : Uid) (e : store.Entity) (u : Uid) → uid_eq u k ≡ false → entity_at t u ≡ entity_at (t ++ (k, e) ∷ []) u
    missed [] k e u h = ap (λ b. if◌then◌else◌ {A = Option store.Entity} b (Some e) None) (sym h)
    missed (y ∷ t) k e u h = ap (λ o. if◌then◌else◌ {A = Option store.Entity} (uid_eq u y.0) (Some y.1) o) (missed t k e u h)

    at : (b d : Bool) → uid_eq u x.0 ≡ b → uid_eq k x.0 ≡ d
        → is_some (if◌then◌else◌ {A = Option store.Entity} d (Some x.1) (entity_at s k)) ≡ true
        → (is_some (entity_at s k) ≡ true → entity_at s u ≡ entity_at (s ++ (k, e) ∷ []) u)
        → (uid_eq u k ≡ false → entity_at s u ≡ entity_at (s ++ (k, e) ∷ []) u)
        → if◌then◌else◌ {A = Option store.Entity} b (Some x.1) (entity_at s u)
        ≡ if◌then◌else◌ {A = Option store.Entity} b (Some x.1) (entity_at (s ++ (k, e) ∷ []) u)
    at true d i j l m n = refl
    at false false i j l m n = m l
    at false true i j l m n = n (apart (uid_eq u k) refl)
      where
        apart : (c : Bool) → uid_eq u k ≡ c → uid_eq u k ≡ false
        apart false e = e
        apart true e =
            let same : uid_eq u x.0 ≡ true = subst (λ w. uid_eq w x.0 ≡ true) (sym (uid_same.to u k e)) j in
            absurd (true≢false (sym same ∙ i))

-- ---- one more entry in a map

module _ (R : EntityUID → EntityUID → Ordering) (is : (a b : EntityUID) → R a b ≡ uid_cmp (uid_of a) (uid_of b)) where
  same_of_tied : (a b : EntityUID) → R a b ≡ Equal → uid_of a ≡ uid_of b
  same_of_tied a b e = uid_same.to (uid_of a) (uid_of b) (uid_ties (uid_of a) (uid_of b) ∙ ap is_eq (sym (is a b) ∙ e))

  apart_of_greater : (a b : EntityUID) → R a b ≡ Greater → uid_eq (uid_of a) (uid_of b) ≡ false
  apart_of_greater a b e = uid_ties (uid_of a) (uid_of b) ∙ ap is_eq (sym (is a b) ∙ e)

  pub inserted : (es : List (EntityUID × Entity)) (k : EntityUID) (v : Entity) (u : Uid)
      → entity_at (stored_all (insert_entry R es k v)) u ≡ put (uid_of k) (entity_of v) u (entity_at (stored_all es) u)
  inserted [] k v u = refl
  inserted (e ∷ es) k v u = at (R k e.0) refl (inserted es k v u)
    where
      at : (o : Ordering) → R k e.0 ≡ o
          → entity_at (stored_all (insert_entry R es k v)) u ≡ put (uid_of k) (entity_of v) u (entity_at (stored_all es) u)
          → entity_at (stored_all (match_ordering o ((k, v) ∷ e ∷ es) ((e.0, v) ∷ es) (e ∷ insert_entry R es k v))) u
          ≡ put (uid_of k) (entity_of v) u (entity_at (stored_all (e ∷ es)) u)
      at Less i h = refl
      at Equal i h =
          ap (λ w. put w (entity_of v) u (entity_at (stored_all es) u)) (sym (same_of_tied k e.0 i)) ∙ over (uid_eq u (uid_of k)) refl
        where
          over : (b : Bool) → uid_eq u (uid_of k) ≡ b
              → if◌then◌else◌ {A = Option store.Entity} b (Some (entity_of v)) (entity_at (stored_all es) u)
              ≡ if◌then◌else◌ {A = Option store.Entity} b (Some (entity_of v)) (entity_at (stored_all (e ∷ es)) u)
          over true l = refl
          over false l =
              sym (ap (λ b. if◌then◌else◌ {A = Option store.Entity} b (Some (entity_of e.1)) (entity_at (stored_all es) u))
              (ap (uid_eq u) (sym (same_of_tied k e.0 i)) ∙ l))
      at Greater i h = ap (λ o. put (uid_of e.0) (entity_of e.1) u o) h ∙ swapped (uid_eq u (uid_of e.0)) (uid_eq u (uid_of k)) refl refl
        where
          swapped : (b c : Bool) → uid_eq u (uid_of e.0) ≡ b → uid_eq u (uid_of k) ≡ c
              → if◌then◌else◌ {A = Option store.Entity} b (Some (entity_of e.1))
              (if c then Some (entity_of v) else entity_at (stored_all es) u)
              ≡ if◌then◌else◌ {A = Option store.Entity} c (Some (entity_of v))
              (if b then Some (entity_of e.1) else entity_at (stored_all es) u)
          swapped true true l m =
              let same : uid_eq (uid_of k) (uid_of e.0) ≡ true =
              subst (λ w. uid_eq w (uid_of e.0) ≡ true) (uid_same.to u (uid_of k) m) l in
              absurd (true≢false (sym same ∙ apart_of_greater k e.0 i))
          swapped true false l m = refl
          swapped false c l m = refl

-- ---- entries one after another

-- equal stores stay equal with one more entry behind them
pub same_pushed : (s t : Store) (x : Uid × store.Entity) → IsSameStore s t → IsSameStore (s ++ x ∷ []) (t ++ x ∷ [])
same_pushed s t x h u = joined s u ∙ ap (λ o. or_else o) (h u) ∙ sym (joined t u)
  where
    or_else : Option store.Entity → Option store.Entity
    or_else None = if uid_eq u x.0 then Some x.1 else None
    or_else (Some e) = Some e

    joined : (r : Store) (w : Uid) → entity_at (r ++ x ∷ []) u ≡ or_else (entity_at r u)
    joined [] w = refl
    joined (y ∷ r) w = at (uid_eq u y.0) (joined r w)
      where
        at : (b : Bool) → entity_at (r ++ x ∷ []) u ≡ or_else (entity_at r u)
            → if◌then◌else◌ {A = Option store.Entity} b (Some y.1) (entity_at (r ++ x ∷ []) u)
            ≡ or_else (if b then Some y.1 else entity_at r u)
        at true h = refl
        at false h = h

pub next_stored : (es : List (EntityUID × Entity)) (e : EntityUID × Entity) (s n : Store) → IsSameStore s (stored_all es)
    → IsSameStore n (s ++ stored_of e ∷ []) → IsSameStore n (stored_all (es ++ e ∷ []))
next_stored es e s n h k u =
    k u ∙ same_pushed s (stored_all es) (stored_of e) h u ∙ ap (λ t. entity_at t u) (sym (map_push stored_of es e))

-- ---- the entries of a map have different ids

module _ (R : EntityUID → EntityUID → Ordering) (is : (a b : EntityUID) → R a b ≡ uid_cmp (uid_of a) (uid_of b)) where
  apart_from_first : (k : EntityUID) (es : List (EntityUID × Entity)) → AllByRecursion (λ y. R k y ≡ Less) (keys_of es)
      → list_any (λ y. uid_eq (uid_of k) y.0) (stored_all es) ≡ false
  apart_from_first k [] h = refl
  apart_from_first k (e ∷ es) h =
      (λ i. (uid_ties (uid_of k) (uid_of e.0) ∙ ap is_eq (sym (is k e.0) ∙ h.0)) i || list_any (λ y. uid_eq (uid_of k) y.0) (stored_all es))
      ∙ apart_from_first k es h.1

  pub apart_from_sorted : (es : List (EntityUID × Entity)) → IsStrictlySortedBy R (keys_of es) → IsApart (stored_all es)
  apart_from_sorted [] h = refl
  apart_from_sorted (e ∷ es) h =
      (λ i. apart_from_first e.0 es (sorted_head R e.0 (keys_of es) h) i || has_repeat (λ x y. uid_eq x.0 y.0) (stored_all es))
      ∙ apart_from_sorted es (sorted_tail R e.0 (keys_of es) h)
