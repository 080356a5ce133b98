-- Tables of extension functions that ascend by name: their faults, and look-ups in them.
use Rattle.std.proofs.Common.{◌≡◌, refl, sym, ap, subst, ◌∙◌, ◌⊎◌, inl, inr, ⊎_elim, ℕ, suc, ◌+◌, ◌<◌, ◌≤◌, arith, Bool, true, false, not}
use Rattle.std.proofs.Common.{cond, ◌||◌, List, [], ◌∷◌, map, length, get_or, drop, Option, Some, None, is_some, true≢false, Ordering, Less}
use Rattle.std.proofs.Common.{Equal, Greater, is_lt, is_eq}
use Rattle.std.specs.Ordering.{ordering_reverse, ordering_index}
use Rattle.std.specs.Cmp.{on_total}
use Rattle.std.specs.List.{list_any, AllByRecursion, AllAdjacentBelow, AllWithin, IsDistinct}
use Rattle.std.specs.List.Sorted.{IsSortedBy, IsNonDecreasingBy, IsPartitionPoint}
use Rattle.std.proofs.lemmas.Bool.{cases_lt}
use Rattle.std.proofs.lemmas.List.{get_or-map, get_or_default, length-map, at_drop_more}
use Rattle.std.proofs.lemmas.List.Sorted.{searchable_from_sorted}
use Rattle.std.proofs.lemmas.Map.Keys.{IsDistinct-head, IsDistinct-tail, IsDistinct-from_sorted, apart_from_distinct}
use Rattle.std.proofs.lemmas.Map.Keys.{sorted_from_all_adjacent}
use Rattle.cedar_types.specs.Names.{Path, path_cmp, path_eq, path_of}
use Rattle.cedar_types.specs.Names.Comparisons.{name_eq}
use Rattle.cedar_types.specs.Lemmas.Comparisons.{name_is}
use Rattle.cedar_types.specs.declared.base.expressions.extensions.ExtensionFunctionType.{ExtensionFunctionType}
use Rattle.cedar_types.specs.declared.base.expressions.extensions.ExtensionTableError.{ExtensionTableError}
use Rattle.cedar_types.specs.Extensions.Functions.{Refusals, ExtensionFunction, function_of, function_named, has_two_alike, has_bad_return}
use Rattle.cedar_types.specs.Extensions.Functions.{lacks_arguments, table_fault}
use Rattle.cedar_types.proofs.Names.Paths.{path_ties, any_mapped}
use Rattle.cedar_types.proofs.Names.Unions.{path_total}
use Rattle.cedar_types.proofs.Expressions.ExtensionTables.{same, neither, distinct, named_alone, unnamed}

-- A name is below the next if it is not above it and differs from it
rises : (p q : Path) → is_lt (path_cmp q p) ≡ false → not (path_eq p q) ≡ true → path_cmp p q ≡ Less
rises p q up apart = along (path_cmp p q) refl
  where
    along : (o : Ordering) → o ≡ path_cmp p q → path_cmp p q ≡ Less
    along Less e = sym e
    along Equal e = absurd (true≢false (sym apart ∙ ap not (path_ties p q ∙ ap is_eq (sym e))))
    along Greater e = absurd (true≢false (ap is_lt (ap ordering_reverse e ∙ sym (path_total.antisymm q p)) ∙ up))

not_false : (b : Bool) → (b ≡ false → ⊥) → b ≡ true
not_false true h = refl
not_false false h = absurd (h refl)

none_passes : {X : Type 0} (p : X → Bool) (xs : List X)
    → ((k : ℕ) (d : X) → k < length xs → p (get_or xs k d) ≡ false) → list_any p xs ≡ false
none_passes p [] h = refl
none_passes p (x ∷ xs) h =
    neither (p x) (list_any p xs) (h 0 x (omega arith))
    (none_passes p xs (λ k d lt. h (suc k) d (omega (arith, lt))))

-- The first fault of a list of functions, by three tests
pub fault_of : (fs : List ExtensionFunction) (a b r : Bool) → list_any has_bad_return fs ≡ a
    → list_any lacks_arguments fs ≡ b → has_two_alike fs ≡ r
    → table_fault fs ≡ cond a (Some ExtensionTableError.BadReturnType)
    (cond b (Some ExtensionTableError.VariadicWithoutArguments)
    (cond r (Some ExtensionTableError.DuplicateFunction) None))
fault_of fs a b r returns lacks two =
    λ i. cond (returns i) (Some ExtensionTableError.BadReturnType)
    (cond (lacks i) (Some ExtensionTableError.VariadicWithoutArguments)
    (cond (two i) (Some ExtensionTableError.DuplicateFunction) None))

-- One turn of a search for an element that passes
pub any_turn : {X : Type 0} (p : X → Bool) (xs : List X) (i : ℕ) (x : X) (b : Bool) → i < length xs
    → x ≡ get_or xs i x → p x ≡ b → list_any p (drop i xs) ≡ (b || list_any p (drop (i + 1) xs))
any_turn p xs i x b lt is e = at_drop_more (list_any p) xs i x lt ∙ ap (λ r. r || list_any p (drop (i + 1) xs)) (ap p (sym is) ∙ e)

bottom : (o : Ordering) → ordering_index o ≤ 0 → o ≡ Less
bottom Less h = refl
bottom Equal h = absurd (omega (arith, h))
bottom Greater h = absurd (omega (arith, h))

top : (o : Ordering) → 2 ≤ ordering_index o → o ≡ Greater
top Less h = absurd (omega (arith, h))
top Equal h = absurd (omega (arith, h))
top Greater h = refl

module _ {C : Type 0} where
  abbrev by_name : ExtensionFunctionType C → ExtensionFunctionType C → Ordering
  by_name f g = path_cmp (path_of f.name) (path_of g.name)

  named_are : (meaning : C → Refusals) (n : Path) (fs : List (ExtensionFunctionType C))
      → list_any (λ f. path_eq n (path_of f.name)) fs
      ≡ list_any (λ f. path_eq n f.name) (map (function_of meaning) fs)
  named_are meaning n fs = any_mapped (function_of meaning) (λ f. path_eq n f.name) fs

  -- A test that ignores the checks gives one answer for any meaning of the checks
  test_alike : (p : ExtensionFunction → Bool) (meaning other : C → Refusals)
      → ((f : ExtensionFunctionType C) → p (function_of meaning f) ≡ p (function_of other f))
      → (fs : List (ExtensionFunctionType C))
      → list_any p (map (function_of meaning) fs) ≡ list_any p (map (function_of other) fs)
  test_alike p meaning other h [] = refl
  test_alike p meaning other h (f ∷ fs) = λ i. h f i || test_alike p meaning other h fs i

  two_alike : (meaning other : C → Refusals) (fs : List (ExtensionFunctionType C))
      → has_two_alike (map (function_of meaning) fs) ≡ has_two_alike (map (function_of other) fs)
  two_alike meaning other [] = refl
  two_alike meaning other (f ∷ fs) =
      λ i. (sym (named_are meaning (path_of f.name) fs) ∙ named_are other (path_of f.name) fs) i
      || two_alike meaning other fs i

  -- The fault of a table does not depend on the meaning of its checks
  pub fault_alike : (meaning other : C → Refusals) (fs : List (ExtensionFunctionType C))
      → table_fault (map (function_of meaning) fs) ≡ table_fault (map (function_of other) fs)
  fault_alike meaning other fs = λ i.
      cond (test_alike has_bad_return meaning other (λ f. refl) fs i) (Some ExtensionTableError.BadReturnType)
      (cond (test_alike lacks_arguments meaning other (λ f. refl) fs i) (Some ExtensionTableError.VariadicWithoutArguments)
      (cond (two_alike meaning other fs i) (Some ExtensionTableError.DuplicateFunction) None))

  -- A table without faults has no two functions of one name
  pub apart_in_table : (meaning : C → Refusals) (fs : List (ExtensionFunctionType C))
      → is_some (table_fault (map (function_of (λ check args. None)) fs)) ≡ false
      → has_two_alike (map (function_of meaning) fs) ≡ false
  apart_in_table meaning fs none = two_alike meaning (λ check args. None) fs ∙ third _ _ _ none
    where
      third : (a b r : Bool) → is_some (cond a (Some ExtensionTableError.BadReturnType)
          (cond b (Some ExtensionTableError.VariadicWithoutArguments)
          (cond r (Some ExtensionTableError.DuplicateFunction) None))) ≡ false → r ≡ false
      third true b r h = absurd (true≢false h)
      third false true r h = absurd (true≢false h)
      third false false true h = absurd (true≢false h)
      third false false false h = refl

  pub no_fault : (meaning : C → Refusals) (fs : List (ExtensionFunctionType C))
      → is_some (table_fault (map (function_of (λ check args. None)) fs)) ≡ false
      → table_fault (map (function_of meaning) fs) ≡ None
  no_fault meaning fs none =
      fault_alike meaning (λ check args. None) fs
      ∙ nothing (table_fault (map (function_of {C = C} (λ check args. None)) fs)) none
    where
      nothing : (o : Option ExtensionTableError) → is_some o ≡ false → o ≡ None
      nothing None h = refl
      nothing (Some e) h = absurd (true≢false h)

  -- ---- neighbours

  -- The comparison of the names of two functions in a list
  pub compared : (fs : List (ExtensionFunctionType C)) (i j : ℕ) (x y d : ExtensionFunctionType C) → i < length fs → j < length fs
      → name_eq (get_or fs i x).name (get_or fs j y).name ≡ path_eq (path_of (get_or fs i d).name) (path_of (get_or fs j d).name)
  compared fs i j x y d lt lt' =
      name_is (get_or fs i x).name (get_or fs j y).name ∙ λ k. path_eq (path_of (get_or_default fs i x d lt k).name)
      (path_of (get_or_default fs j y d lt' k).name)

  apart_from : (meaning : C → Refusals) (f : ExtensionFunctionType C) (fs : List (ExtensionFunctionType C))
      → AllByRecursion (λ g. is_eq (by_name f g) ≡ false) fs
      → list_any (λ g. path_eq (path_of f.name) g.name) (map (function_of meaning) fs) ≡ false
  apart_from meaning f [] h = refl
  apart_from meaning f (g ∷ fs) h = neither _ _ (path_ties (path_of f.name) (path_of g.name) ∙ h.0) (apart_from meaning f fs h.1)

  apart : (meaning : C → Refusals) (fs : List (ExtensionFunctionType C))
      → IsDistinct (λ f g. is_eq (by_name f g)) fs → has_two_alike (map (function_of meaning) fs) ≡ false
  apart meaning [] h = refl
  apart meaning (f ∷ fs) h = neither _ _ (apart_from meaning f fs (IsDistinct-head _ f fs h)) (apart meaning fs (IsDistinct-tail _ f fs h))

  -- Ascending functions have distinct names if neighbours differ
  pub neighbours_apart : (meaning : C → Refusals) (fs : List (ExtensionFunctionType C))
      → IsSortedBy (λ f g. is_lt (by_name f g)) fs
      → AllAdjacentBelow (λ f g. not (path_eq (path_of f.name) (path_of g.name)) ≡ true) fs (length fs)
      → has_two_alike (map (function_of meaning) fs) ≡ false
  neighbours_apart meaning [] up differ = refl
  neighbours_apart meaning (f ∷ fs) up differ =
      apart meaning (f ∷ fs) (IsDistinct-from_sorted by_name (f ∷ fs)
      (sorted_from_all_adjacent (on_total (λ g. path_of g.name) path_total) (f ∷ fs) f
      (λ k lt. rises (path_of (get_or (f ∷ fs) k f).name) (path_of (get_or (f ∷ fs) (k + 1) f).name)
      (up k f (omega arith) lt) (differ k f lt))))

  -- Two neighbours that do not differ have one name
  pub neighbours_alike : (meaning : C → Refusals) (fs : List (ExtensionFunctionType C)) (k : ℕ) → k + 1 < length fs
      → ((d : ExtensionFunctionType C)
      → not (path_eq (path_of (get_or fs k d).name) (path_of (get_or fs (k + 1) d).name)) ≡ false)
      → has_two_alike (map (function_of meaning) fs) ≡ true
  neighbours_alike meaning [] k lt is = absurd (omega (arith, lt))
  neighbours_alike meaning (f ∷ fs) k lt is = not_false _ (λ none.
      let F = function_of meaning in
      let long = length-map (f ∷ fs) F in
      let differ = apart_from_distinct same (map F (f ∷ fs)) k (k + 1) (F f) (distinct (map F (f ∷ fs)) none)
      (omega arith) (omega (arith, long, lt)) in
      let one = get_or-map F (f ∷ fs) k f (F f) (omega (arith, lt)) in
      let next = get_or-map F (f ∷ fs) (k + 1) f (F f) lt in
      true≢false (sym (ap not (λ i. same (sym one i) (sym next i)) ∙ ap not differ) ∙ is f))

  -- ---- a search by name

  module _ (meaning : C → Refusals) (fs : List (ExtensionFunctionType C)) (n : Path) where
    pub found : has_two_alike (map (function_of meaning) fs) ≡ false → (i : ℕ) (f : ExtensionFunctionType C)
        → i < length fs → f ≡ get_or fs i f → path_cmp (path_of f.name) n ≡ Equal
        → function_named n (map (function_of meaning) fs) ≡ Some (function_of meaning f)
    found none i f lt is at =
        let F = function_of meaning in
        let named : path_cmp n (path_of f.name) ≡ Equal = path_total.antisymm n (path_of f.name) ∙ ap ordering_reverse at in
        named_alone n (map F fs) (F f) (distinct (map F fs) none) (record {
          within = (i, omega (arith, length-map fs F, lt), get_or-map F fs i f (F f) lt ∙ ap F (sym is));
          named = path_ties n (path_of f.name) ∙ ap is_eq named;
        })

    pub missed : (i : ℕ) → IsPartitionPoint (λ g. path_cmp (path_of g.name) n ≡ Less) (λ g. path_cmp (path_of g.name) n ≡ Greater) fs i
        → function_named n (map (function_of meaning) fs) ≡ None
    missed i split =
        unnamed n (map (function_of meaning) fs)
        (sym (named_are meaning n fs) ∙ none_passes (λ g. path_eq n (path_of g.name)) fs (λ k d lt. ⊎_elim
        (λ below. other (get_or fs k d) (inl (split.0 k d (omega arith) below)))
        (λ above. other (get_or fs k d) (inr (split.1 k d above lt)))
        (cases_lt k i)))
      where
        other : (g : ExtensionFunctionType C) → (path_cmp (path_of g.name) n ≡ Less)
            ⊎ (path_cmp (path_of g.name) n ≡ Greater) → path_eq n (path_of g.name) ≡ false
        other g (inl e) = path_ties n (path_of g.name) ∙ ap is_eq (path_total.antisymm n (path_of g.name) ∙ ap ordering_reverse e)
        other g (inr e) = path_ties n (path_of g.name) ∙ ap is_eq (path_total.antisymm n (path_of g.name) ∙ ap ordering_reverse e)

    module _ (up : IsSortedBy (λ f g. is_lt (by_name f g)) fs) where
      abbrev Below : ℕ → Type 0
      Below low = AllWithin (λ g. path_cmp (path_of g.name) n ≡ Less) fs 0 low

      abbrev Beyond : ℕ → Type 0
      Beyond high = AllWithin (λ g. path_cmp (path_of g.name) n ≡ Greater) fs high (length fs)

      rising : IsNonDecreasingBy (λ g. ordering_index (path_cmp (path_of g.name) n)) fs
      rising = searchable_from_sorted path_total (λ g. path_of g.name) fs n up

      -- Functions up to one below n are below n, and functions from one above n on are above n
      pub upper_half : (i : ℕ) (f : ExtensionFunctionType C) → i < length fs → f ≡ get_or fs i f
          → path_cmp (path_of f.name) n ≡ Less → Below (i + 1)
      upper_half i f lt is e k d a b =
          let here : path_cmp (path_of (get_or fs i d).name) n
          ≡ Less = ap (λ g. path_cmp (path_of g.name) n) (get_or_default fs i d f lt ∙ sym is) ∙ e in
          let up = rising k i d (omega (arith, b)) lt in
          bottom _ (subst (λ o. ordering_index (path_cmp (path_of (get_or fs k d).name) n) ≤ ordering_index o) here up)

      pub lower_half : (i : ℕ) (f : ExtensionFunctionType C) → i < length fs → f ≡ get_or fs i f
          → path_cmp (path_of f.name) n ≡ Greater → Beyond i
      lower_half i f lt is e k d a b =
          let here : path_cmp (path_of (get_or fs i d).name) n
          ≡ Greater = ap (λ g. path_cmp (path_of g.name) n) (get_or_default fs i d f lt ∙ sym is) ∙ e in
          let up = rising i k d a b in
          top _ (subst (λ o. ordering_index o ≤ ordering_index (path_cmp (path_of (get_or fs k d).name) n)) here up)
