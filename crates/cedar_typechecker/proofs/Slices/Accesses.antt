-- Accesses of attributes, of entities and of records: `has` and `.`.
use Rattle.std.proofs.Common.{◌≡◌, ℕ, zero, suc, ◌≤◌, ◌<◌, List, [], ◌∷◌, Option, Some, None, refl, sym, ◌∙◌, ap, subst, arith}
use Rattle.cedar_types.specs.Names.{Text, Uid}
use Rattle.cedar_types.specs.Values.Stores.{Entity, Store, entity_at}
use Rattle.cedar_types.specs.Types.{Ty, TRecord, TEntity}
use Rattle.cedar_types.specs.Values.{Value, VEntity, VRecord, Entries, entry_at, OnEntity, OnRecord}
use Rattle.cedar_typing.specs.Evaluation.Eval.{has_test, entity_has, get, entity_get}
use Rattle.cedar_typing.specs.Evaluation.Outcomes.{Says, of_test, on_value, then_test}
use Rattle.cedar_typing.specs.Evaluation.World.{Request, Outcome, Gives, Fails}
use Rattle.cedar_typing.specs.Soundness.{OnValue, HasFound}
use Rattle.cedar_typechecker.specs.Levels.Chains.{base_of}
use Rattle.cedar_typechecker.proofs.Levels.Silent.{Spends, ByBase}
use Rattle.cedar_typechecker.proofs.Slices.Ids.{Selected, select_found, entry_ids, select_entity, attribute_ids}
use Rattle.cedar_typechecker.proofs.Slices.Same.{IsReached, value_map}
use Rattle.cedar_typechecker.proofs.Slices.Stores.{Agrees, IsSameValueIn, same_value}

-- ---- the kind of a base

abbrev pub IsEntity : Value → Type 0
IsEntity = OnEntity (λ u. Unit {0})

abbrev pub IsRecord : Value → Type 0
IsRecord = OnRecord (λ es. Unit {0})

some_entity : (Q : Uid → Type 0) (v : Value) → OnEntity Q v → IsEntity v
some_entity Q (VEntity u) h = tt
some_entity Q v h = absurd h

some_record : (Q : Entries → Type 0) (v : Value) → OnRecord Q v → IsRecord v
some_record Q (VRecord es) h = tt
some_record Q v h = absurd h

-- the base is an entity or a record, by its type
by_base : (found : Option Ty) (o : Outcome) (X Y Z : Type 0) → HasFound found o
    → ByBase (base_of found) X Y → (OnValue IsEntity o → X → Z) → (OnValue IsRecord o → Y → Z) → Z
by_base None o X Y Z h b f g = absurd b
by_base (Some (TEntity ps)) o X Y Z h b f g = f (value_map o (some_entity _) h) b
by_base (Some (TRecord xs p)) o X Y Z h b f g = g (value_map o (some_record _) h) b
by_base (Some t) o X Y Z h b f g = absurd b

-- the number from which an access is spent is not 0
pub spent : (n : ℕ) (P : ℕ → Type 0) → Spends n P → (k : ℕ) × (n ≡ suc k) × P k
spent zero P h = absurd h
spent (suc k) P h = (k, refl, h)

-- ---- in two stores that agree on the base

module _ (store part : Store) where
  record_alike : (v : Value) → IsRecord v → IsSameValueIn part store v
  record_alike (VRecord es) h = tt
  record_alike v h = absurd h

  module _ (x : Text) where
    pub has_alike : (v : Value) → IsSameValueIn part store v → has_test part x v ≡ has_test store x v
    has_alike (VEntity u) e = ap (λ z. Says (entity_has z x)) e
    has_alike v e = refl

    pub get_alike : (v : Value) → IsSameValueIn part store v → get part x v ≡ get store x v
    get_alike (VEntity u) e = ap (λ z. entity_get z x) e
    get_alike v e = refl

    tested_alike : (o : Outcome) → OnValue (IsSameValueIn part store) o
        → then_test o (has_test part x) ≡ then_test o (has_test store x)
    tested_alike (Gives v) h = has_alike v h
    tested_alike (Fails f) h = refl

    got_alike : (o : Outcome) → OnValue (IsSameValueIn part store) o
        → on_value o (get part x) ≡ on_value o (get store x)
    got_alike (Gives v) h = get_alike v h
    got_alike (Fails f) h = refl

-- ---- in a part that agrees on the entities that are reached

module _ (q : Request) (store part : Store) (n : ℕ) (P : ℕ → Uid → Type 0)
    (a : Agrees q store part n P) where
  pub reached_alike : (k : ℕ) → k < n → (path : List Text) (o : Outcome)
      → OnValue (Selected (P k) path) o → OnValue (IsSameValueIn part store) o
  reached_alike k lt path o h = value_map o (same_value q store part n P a k lt path) h

  module _ (x : Text) where
    -- the ids that a record holds along x and the path are those that its attribute x holds along
    -- the path
    got_of_record : (k : ℕ) (path : List Text) (o : Outcome) → OnValue IsRecord o
        → OnValue (Selected (P k) (x ∷ path)) o
        → OnValue (Selected (P k) path) (on_value o (get store x))
    got_of_record k path (Gives (VRecord es)) h i = attribute_ids (P k) path (entry_at x es) i
    got_of_record k path (Gives v) h i = absurd h
    got_of_record k path (Fails f) h i = tt

    -- the ids that an entity holds are reached in one more step than the entity
    pub entity_got : (k : ℕ) (path : List Text) (u : Uid) → P k u
        → (e : Option Entity) → entity_at store u ≡ e
        → OnValue (Selected (P (suc k)) path) (entity_get e x)
    entity_got k path u h None f = tt
    entity_got k path u h (Some e) f =
        let o = entry_at x e.attributes in
        attribute_ids (P (suc k)) path o
        (select_found (P (suc k)) path o
        (entry_ids (P (suc k)) x e.attributes (a.attributes k u e h f)))

    got_of_entity : (k : ℕ) (path : List Text) (o : Outcome) → OnValue IsEntity o
        → OnValue (Selected (P k) path) o
        → OnValue (Selected (P (suc k)) path) (on_value o (get store x))
    got_of_entity k path (Gives (VEntity u)) h i =
        entity_got k path u (select_entity (P k) path u i) (entity_at store u) refl
    got_of_entity k path (Gives v) h i = absurd h
    got_of_entity k path (Fails f) h i = tt

    -- ---- by the kind of the base

    module _ (found : Option Ty) (o o' : Outcome) (h : HasFound found o)
        (targeted : List Text → ℕ → Type 0) (silent : Type 0)
        (of_target : (path : List Text) (k : ℕ) → k ≤ n → targeted path k
        → IsReached P path k o o')
        (of_checked : silent → o' ≡ o) where
      pub get_checked : ByBase (base_of found) (Spends n (targeted [])) silent
          → on_value o' (get part x) ≡ on_value o (get store x)
      get_checked b =
          by_base found o _ _ _ h b
          (λ i t.
          let z = spent n (targeted []) t in
          let w = of_target [] z.0 (omega (arith, z.1)) z.2 in
          ap (λ y. on_value y (get part x)) w.same
          ∙ got_alike store part x o (reached_alike z.0 (omega (arith, z.1)) [] o w.ids))
          (λ i t.
          ap (λ y. on_value y (get part x)) (of_checked t)
          ∙ got_alike store part x o (value_map o (record_alike store part) i))

      pub has_checked : ByBase (base_of found) (Spends n (targeted [])) silent
          → of_test (then_test o' (has_test part x)) ≡ of_test (then_test o (has_test store x))
      has_checked b =
          by_base found o _ _ _ h b
          (λ i t.
          let z = spent n (targeted []) t in
          let w = of_target [] z.0 (omega (arith, z.1)) z.2 in
          ap (λ y. of_test (then_test y (has_test part x))) w.same
          ∙ ap of_test
          (tested_alike store part x o (reached_alike z.0 (omega (arith, z.1)) [] o w.ids)))
          (λ i t.
          ap (λ y. of_test (then_test y (has_test part x))) (of_checked t)
          ∙ ap of_test (tested_alike store part x o (value_map o (record_alike store part) i)))

      pub get_target : (path : List Text) (k : ℕ) → k ≤ n
          → ByBase (base_of found) (Spends k (targeted path)) (targeted (x ∷ path) k)
          → IsReached P path k (on_value o (get store x)) (on_value o' (get part x))
      get_target path k le b =
          by_base found o _ _ _ h b
          (λ i t.
          let z = spent k (targeted path) t in
          let w = of_target path z.0 (omega (arith, z.1)) z.2 in
          record {
            same = ap (λ y. on_value y (get part x)) w.same
                ∙ got_alike store part x o
                (reached_alike z.0 (omega (arith, z.1)) path o w.ids);
            ids = subst (λ j. OnValue (Selected (P j) path) (on_value o (get store x))) (sym z.1)
                (got_of_entity z.0 path o i w.ids);
          })
          (λ i t.
          let w = of_target (x ∷ path) k le t in
          record {
            same = ap (λ y. on_value y (get part x)) w.same
                ∙ got_alike store part x o (value_map o (record_alike store part) i);
            ids = got_of_record k path o i w.ids;
          })
