-- The attributes that lead to the first entity, as they are counted.
use Rattle.std.proofs.Common.{◌≡◌, ℕ, suc, ◌+◌, ◌-◌, ◌≤◌, Bool, List, [], ◌∷◌, Option, Some, None, option_map, take, refl, sym, ap, ◌∙◌}
use Rattle.std.proofs.Common.{arith}
use Rattle.cedar_types.specs.Types.Lookups.{attribute_type}
use Rattle.cedar_types.specs.Names.{Text}
use Rattle.cedar_types.specs.Schemas.{Schema}
use Rattle.cedar_types.specs.Types.{Ty}
use Rattle.cedar_typechecker.specs.Levels.Chains.{Base, an_entity, a_record, neither, base_of_type}
use Rattle.cedar_typechecker.specs.Levels.Costs.{on_attribute, keys_on, keys_to_entity}
use Rattle.cedar_typechecker.specs.Levels.Demands.{by_base, entity_after}

-- i attributes come before x; then the number that was found, and the keys
abbrev KeysAre : ℕ → Text → List Text → Option ℕ → Option (List Text) → Type 0
KeysAre i x xs None keys = keys ≡ None
KeysAre i x xs (Some j) keys = (i ≤ j) × (keys ≡ Some (x ∷ take (j - i) xs))

one_longer : (i j : ℕ) (y : Text) (ys : List Text) → i + 1 ≤ j
    → y ∷ take (j - (i + 1)) ys ≡ take (j - i) (y ∷ ys)
one_longer i j y ys h =
    let e : suc (j - (i + 1)) ≡ j - i = omega arith in
    ap (λ k. take k (y ∷ ys)) e

here : (i : ℕ) (x y : Text) (ys : List Text) → Some (x ∷ []) ≡ Some (x ∷ take (i - i) (y ∷ ys))
here i x y ys =
    let e : 0 ≡ i - i = omega arith in
    ap (λ k. Some (x ∷ take k (y ∷ ys))) e

later : (i : ℕ) (x y : Text) (ys : List Text) (o : Option ℕ) (keys : Option (List Text))
    → KeysAre (i + 1) y ys o keys → KeysAre i x (y ∷ ys) o (option_map (λ ks. x ∷ ks) keys)
later i x y ys None keys h = ap (option_map (λ ks. x ∷ ks)) h
later i x y ys (Some j) keys h =
    let le : i + 1 ≤ j = h.0 in (
      omega arith,
      ap (option_map (λ ks. x ∷ ks)) h.1 ∙ ap (λ ks. Some (x ∷ ks))
          (one_longer i j y ys le),
    )

after_base : (i : ℕ) (x y : Text) (ys : List Text) (b : Base) (o : Option ℕ)
    (keys : Option (List Text)) → KeysAre (i + 1) y ys o keys
    → KeysAre i x (y ∷ ys) (by_base b (Some i) o o) (keys_on b x keys)
after_base i x y ys an_entity o keys h = (omega arith, here i x y ys)
after_base i x y ys a_record o keys h = later i x y ys o keys h
after_base i x y ys neither o keys h = later i x y ys o keys h

module _ (s : Schema) where
  after_attribute : (i : ℕ) (x y : Text) (ys : List Text) (a : Option (Ty × Bool))
      → ((u : Ty) → KeysAre (i + 1) y ys (entity_after s (i + 1) u y ys) (keys_to_entity s u y ys))
      → KeysAre i x (y ∷ ys) (on_attribute None a
      (λ u. by_base (base_of_type u) (Some i) (entity_after s (i + 1) u y ys)
      (entity_after s (i + 1) u y ys)))
      (on_attribute None a (λ u. keys_on (base_of_type u) x (keys_to_entity s u y ys)))
  after_attribute i x y ys None h = refl
  after_attribute i x y ys (Some a) h =
      after_base i x y ys (base_of_type a.0) (entity_after s (i + 1) a.0 y ys)
      (keys_to_entity s a.0 y ys) (h a.0)

  counted : (i : ℕ) (t : Ty) (x : Text) (xs : List Text)
      → KeysAre i x xs (entity_after s i t x xs) (keys_to_entity s t x xs)
  counted i t x [] = refl
  counted i t x (y ∷ ys) =
      after_attribute i x y ys (attribute_type s t x) (λ u. counted (i + 1) u y ys)

  from_start : (x : Text) (xs : List Text) (o : Option ℕ) (keys : Option (List Text))
      → KeysAre 0 x xs o keys → option_map (λ i. x ∷ take i xs) o ≡ keys
  from_start x xs None keys h = sym h
  from_start x xs (Some j) keys h =
      let e : j ≡ j - 0 = omega arith in
      ap (λ k. Some (x ∷ take k xs)) e ∙ sym h.1

  pub keys_are : (t : Ty) (x : Text) (xs : List Text)
      → option_map (λ i. x ∷ take i xs) (entity_after s 0 t x xs) ≡ keys_to_entity s t x xs
  keys_are t x xs =
      from_start x xs (entity_after s 0 t x xs) (keys_to_entity s t x xs) (counted 0 t x xs)

  -- the keys, from the number that was counted
  pub keys_counted : (t : Ty) (x : Text) (xs : List Text) (found o : Option ℕ)
      → found ≡ entity_after s 0 t x xs → found ≡ o
      → option_map (λ i. x ∷ take i xs) o ≡ keys_to_entity s t x xs
  keys_counted t x xs found o h k =
      ap (option_map (λ i. x ∷ take i xs)) (sym k ∙ h) ∙ keys_are t x xs
