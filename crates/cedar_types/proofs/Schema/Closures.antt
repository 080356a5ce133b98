-- Sets of descendants: if each set is kept, each set is closed.
use Rattle.std.proofs.Common.{◌≡◌, refl, sym, ap, ◌∙◌, arith, ℕ, zero, suc, ◌<◌, Bool, true, false, ◌||◌, ◌&&◌, List, [], ◌∷◌, map, length}
use Rattle.std.proofs.Common.{Some, cond, nat_lt, ltb-true, lt-ltb, IsTrue, ◌↔◌, take, get_or, ◌+◌}
use Rattle.std.specs.declared.cmp.Ordering.{Ordering}
use Rattle.std.specs.Ordering.{is_eq}
use Rattle.std.specs.Bool.{Decides}
use Rattle.std.specs.List.{list_any, list_all, find}
use Rattle.std.specs.Cmp.Lexicographic.{pointwise}
use Rattle.std.specs.Cmp.Derive.Mapped.{pointwise-map}
use Rattle.std.proofs.Math.Bool.{or-true}
use Rattle.std.proofs.lemmas.Slice.Eq.{slice_eq-Decides}
use Rattle.std.proofs.lemmas.List.{take-map}
use Rattle.std.proofs.lemmas.List.Folds.{list_all-map, list_all-append}
use Rattle.cedar_types.specs.Schemas.Closures.{has_all, is_below, is_kept, is_closed, are_kept}
use Rattle.cedar_types.proofs.Schema.Places.{any_mapped, next_mapped}
use Rattle.cedar_types.proofs.Tests.{Within, found, each, and_left, and_right, and_both, alike}

-- ---- elements of a list

first_within : {B : Type 0} (b : B) (bs : List B) → Within b (b ∷ bs)
first_within b bs = record { passes = λ p t. ap (λ r. r || list_any p bs) t }

later_within : {B : Type 0} (b c : B) (bs : List B) → Within c bs → Within c (b ∷ bs)
later_within b c bs w = record { passes = λ p t. ap (λ r. p b || r) (w.passes p t) ∙ or-true (p b) }

pub all_pass : {B : Type 0} (p : B → Bool) (bs : List B) → ((b : B) → Within b bs → p b ≡ true) → list_all p bs ≡ true
all_pass p [] h = refl
all_pass p (b ∷ bs) h = and_both (p b) (list_all p bs) (h b (first_within b bs)) (all_pass p bs (λ c w. h c (later_within b c bs w)))

-- An element that a search finds is in the list
pub found_within : {X : Type 0} (p : X → Bool) (xs : List X) (y : X) → find p xs ≡ Some y → Within y xs
found_within p [] y h = cc
found_within p (x ∷ xs) y h = along (p x) h (found_within p xs y)
  where
    along : (b : Bool) → cond b (Some x) (find p xs) ≡ Some y → (find p xs ≡ Some y → Within y xs) → Within y (x ∷ xs)
    along true h k = let is : x ≡ y = cc in record { passes = λ q t. ap (λ r. r || list_any q xs) (ap q is ∙ t) }
    along false h k = later_within x y xs (k h)

found_passes : {X : Type 0} (p : X → Bool) (xs : List X) (y : X) → find p xs ≡ Some y → p y ≡ true
found_passes p [] y h = cc
found_passes p (x ∷ xs) y h = along (p x) refl h (found_passes p xs y)
  where
    along : (b : Bool) → b ≡ p x → cond b (Some x) (find p xs) ≡ Some y → (find p xs ≡ Some y → p y ≡ true) → p y ≡ true
    along true e h k = let is : x ≡ y = cc in ap p (sym is) ∙ sym e
    along false e h k = k h

-- An element that a search by name finds has that name, and its own name finds it
pub found_named : {X B : Type 0} (same : B → B → Bool) → ((a b : B) → Decides (same a b) (a ≡ b)) → (name : X → B)
    (xs : List X) (b : B) (x : X) → find (λ y. same b (name y)) xs ≡ Some x
    → (b ≡ name x) × (find (λ y. same (name x) (name y)) xs ≡ Some x)
found_named same decides name xs b x h =
    let is : b ≡ name x = (decides b (name x)).0 (found_passes (λ y. same b (name y)) xs x h) in
    (is, ap (λ a. find (λ y. same a (name y)) xs) (sym is) ∙ h)

second : (a b : Bool) → (a || b) ≡ true → (b ≡ true → a ≡ true) → a ≡ true
second true b h k = refl
second false b h k = k h

either : (a b c : Bool) → (a || b) ≡ true → (a ≡ true → c ≡ true) → (b || c) ≡ true
either true b c h k = ap (λ r. b || r) (k refl) ∙ or-true b
either false b c h k = ap (λ r. r || c) h

-- A name among a list passes each test that all of the list pass
pub among_passes : {B : Type 0} (same : B → B → Bool) → ((a b : B) → Decides (same a b) (a ≡ b)) → (p : B → Bool)
    (bs : List B) (b : B) → list_all p bs ≡ true → list_any (same b) bs ≡ true → p b ≡ true
among_passes same decides p bs b all among =
    let c = found (same b) bs among in ap p ((decides b c.element).0 c.passes) ∙ each p bs c.element all c.within

-- Each element of a list is among the list
pub all_among : {B : Type 0} (same : B → B → Bool) → ((a b : B) → Decides (same a b) (a ≡ b)) → (bs : List B) → has_all same bs bs ≡ true
all_among same decides bs = all_pass (λ b. list_any (same b) bs) bs (λ b w. w.passes (same b) ((decides b b).1 refl))

module _ {X B : Type 0} (same : B → B → Bool) (decides : (a b : B) → Decides (same a b) (a ≡ b)) (own : X → List B)
    (of : B → List B) (xs : List X) where
  has_through : (ls ms ns : List B) → has_all same ls ms ≡ true → has_all same ms ns ≡ true → has_all same ls ns ≡ true
  has_through ls ms ns h k =
      all_pass (λ c. list_any (same c) ls) ns (λ c w. among_passes same decides (λ b. list_any (same b) ls) ms c h
      (each (λ b. list_any (same b) ms) ns c k w))

  below_closes : (n : ℕ) → ((ds : List B) → length ds < n → are_kept same own of xs ds ≡ true → is_closed same of ds ≡ true)
      → list_all (λ x. are_kept same own of xs (own x)) xs ≡ true → (ds : List B) → length ds < suc n → (b : B)
      → list_any (is_below same own ds b) xs ≡ true → has_all same ds (of b) ≡ true
  below_closes n smaller kept ds below b h =
      let x = found (is_below same own ds b) xs h in
      let ls = own x.element in
      let outer = and_left (nat_lt (length ls) (length ds) && has_all same ds ls) (list_any (same b) ls) x.passes in
      let fewer = ltb-true (length ls) (length ds) (and_left (nat_lt (length ls) (length ds)) (has_all same ds ls) outer) in
      let closed = smaller ls (omega (arith, fewer, below)) (each (λ x. are_kept same own of xs (own x)) xs x.element kept x.within) in
      has_through ds ls (of b) (and_right (nat_lt (length ls) (length ds)) (has_all same ds ls) outer)
      (among_passes same decides (λ c. has_all same ls (of c)) ls b closed
      (and_right (nat_lt (length ls) (length ds) && has_all same ds ls) (list_any (same b) ls) x.passes))

  closed_below : (n : ℕ) → list_all (λ x. are_kept same own of xs (own x)) xs ≡ true → (ds : List B) → length ds < n
      → are_kept same own of xs ds ≡ true → is_closed same of ds ≡ true
  closed_below zero kept ds below h = absurd (omega (arith, below))
  closed_below (suc n) kept ds below h =
      all_pass (λ b. has_all same ds (of b)) ds (λ b w.
      second (has_all same ds (of b)) (list_any (is_below same own ds b) xs) (each (is_kept same own of xs ds) ds b h w)
      (below_closes n (closed_below n kept) kept ds below b))

  -- Each set is closed if each set is kept
  pub kept_closed : list_all (λ x. are_kept same own of xs (own x)) xs ≡ true → list_all (λ x. is_closed same of (own x)) xs ≡ true
  kept_closed kept =
      all_pass (λ x. is_closed same of (own x)) xs (λ x w. closed_below (suc (length (own x))) kept (own x) (omega arith)
      (each (λ x. are_kept same own of xs (own x)) xs x kept w))

  -- A closed set is kept
  pub closed_kept : (ds : List B) → is_closed same of ds ≡ true → are_kept same own of xs ds ≡ true
  closed_kept ds h =
      all_pass (is_kept same own of xs ds) ds
      (λ b w. ap (λ r. r || list_any (is_below same own ds b) xs) (each (λ b. has_all same ds (of b)) ds b h w))

  -- A set is kept if it has all below a smaller x, and all below its members that are not below x
  pub widest_kept : (ds : List B) (x : X) → Within x xs → length (own x) < length ds
      → (has_all same ds (own x) && list_all (λ b. list_any (same b) (own x) || has_all same ds (of b)) ds) ≡ true
      → are_kept same own of xs ds ≡ true
  widest_kept ds x w fewer h =
      let wide = and_left (has_all same ds (own x)) (list_all (λ b. list_any (same b) (own x) || has_all same ds (of b)) ds) h in
      let rest = and_right (has_all same ds (own x)) (list_all (λ b. list_any (same b) (own x) || has_all same ds (of b)) ds) h in
      all_pass (is_kept same own of xs ds) ds (λ b v.
      either (list_any (same b) (own x)) (has_all same ds (of b)) (list_any (is_below same own ds b) xs)
      (each (λ b. list_any (same b) (own x) || has_all same ds (of b)) ds b rest v)
      (λ t. w.passes (is_below same own ds b)
      (and_both (nat_lt (length (own x)) (length ds) && has_all same ds (own x)) (list_any (same b) (own x))
      (and_both (nat_lt (length (own x)) (length ds)) (has_all same ds (own x))
      (lt-ltb (length (own x)) (length ds) fewer) wide) t)))

  -- A closed set with b has all below b, and passes the weaker test of its members
  pub closed_widest : (ds : List B) (x : X) (b : B) → of b ≡ own x → list_any (same b) ds ≡ true
      → is_closed same of ds ≡ true → (has_all same ds (own x)
      && list_all (λ b. list_any (same b) (own x) || has_all same ds (of b)) ds) ≡ true
  closed_widest ds x b is among h =
      and_both (has_all same ds (own x)) (list_all (λ b. list_any (same b) (own x) || has_all same ds (of b)) ds)
      (ap (has_all same ds) (sym is) ∙ among_passes same decides (λ c. has_all same ds (of c)) ds b h among)
      (all_pass (λ b. list_any (same b) (own x) || has_all same ds (of b)) ds
      (λ c w. ap (λ r. list_any (same c) (own x) || r) (each (λ c. has_all same ds (of c)) ds c h w)
      ∙ or-true (list_any (same c) (own x))))

  -- A set is kept if it equals a set that is kept
  pub earlier_kept : (ys : List X) (ds : List B) → list_all (λ x. are_kept same own of xs (own x)) ys ≡ true
      → list_any (λ x. pointwise same (own x) ds) ys ≡ true → are_kept same own of xs ds ≡ true
  earlier_kept ys ds kept h =
      let x = found (λ x. pointwise same (own x) ds) ys h in
      let is : own x.element ≡ ds = (slice_eq-Decides {E = same} decides (own x.element) ds _ refl).0 x.passes in
      ap (are_kept same own of xs) (sym is) ∙ each (λ x. are_kept same own of xs (own x)) ys x.element kept x.within

-- The first elements and the next pass if the next passes too
pub all_next : {X Y : Type 0} (f : X → Y) (p : Y → Bool) (xs : List X) (i : ℕ) (x : X) → i < length xs
    → x ≡ get_or xs i x → list_all p (take i (map f xs)) ≡ true → p (f x) ≡ true
    → list_all p (take (i + 1) (map f xs)) ≡ true
all_next f p xs i x below is all here =
    ap (list_all p) (take-map f (i + 1) xs ∙ next_mapped f xs i x below is)
    ∙ list_all-append p (map f (take i xs)) (f x ∷ [])
    ∙ and_both (list_all p (map f (take i xs))) (p (f x) && true) (ap (list_all p) (sym (take-map f i xs)) ∙ all)
    (and_both (p (f x)) true here refl)

-- ---- sets of keys

-- Sets of keys are equal exactly if the views of their keys are
pub keys_same : {K B : Type 0} (f : K → B) (E : K → K → Bool) (same : B → B → Bool)
    → ((a b : K) → E a b ≡ same (f a) (f b)) → (ks ls : List K)
    → pointwise E ks ls ≡ pointwise same (map f ks) (map f ls)
keys_same f E same h ks ls =
    ap (λ e. pointwise e ks ls) (λ i a b. h a b i) ∙ sym (pointwise-map f same ks ls)

-- A membership test in a set of keys is a test of the views of the keys
pub asked_for : {K B : Type 0} (cmp : K → K → Ordering) (f : K → B) (same : B → B → Bool)
    → ((a b : K) → is_eq (cmp a b) ≡ same (f a) (f b)) → (q : K) (ks : List K)
    → list_any (λ k. is_eq (cmp q k)) ks ≡ list_any (same (f q)) (map f ks)
asked_for cmp f same ties q ks = ap (λ p. list_any p ks) (λ i k. ties q k i) ∙ any_mapped f (same (f q)) ks

-- A subset test of sets of keys is a subset test of the views of the keys
pub subset_is : {K B : Type 0} (cmp : K → K → Ordering) (f : K → B) (same : B → B → Bool)
    → ((a b : B) → Decides (same a b) (a ≡ b)) → ((a b : K) → is_eq (cmp a b) ≡ same (f a) (f b)) → (s t : List K)
    (r : Bool)
    → (IsTrue r ↔ ((q : K) → IsTrue (list_any (λ k. is_eq (cmp q k)) s)
    → IsTrue (list_any (λ k. is_eq (cmp q k)) t))) → r ≡ has_all same (map f t) (map f s)
subset_is {K = K} cmp f same decides ties s t r is = alike r (has_all same (map f t) (map f s)) to from
  where
    asked : (q : K) (ks : List K) → list_any (λ k. is_eq (cmp q k)) ks ≡ list_any (same (f q)) (map f ks)
    asked q ks = asked_for cmp f same ties q ks

    own : (q : K) → is_eq (cmp q q) ≡ true
    own q = ties q q ∙ (decides (f q) (f q)).1 refl

    to : r ≡ true → has_all same (map f t) (map f s) ≡ true
    to h =
        list_all-map (λ b. list_any (same b) (map f t)) f s
        ∙ all_pass (λ k. list_any (same (f k)) (map f t)) s (λ k w. sym (asked k t)
        ∙ is.0 h k (w.passes (λ j. is_eq (cmp k j)) (own k)))

    from : has_all same (map f t) (map f s) ≡ true → r ≡ true
    from h = is.1 (λ q e. asked q t ∙ among_passes same decides (λ b. list_any (same b) (map f t)) (map f s) (f q) h (sym (asked q s) ∙ e))
