-- A binary search in a list in ascending order, and an insertion if the search ends at a gap.
use Rattle.std.proofs.Common.{◌≡◌, ℕ, zero, suc, ◌<◌, ◌≤◌, Bool, true, false, ◌||◌, List, [], ◌∷◌, length, Result, Ok, Err, is_ok, insert}
use Rattle.std.proofs.Common.{refl, sym, ap, subst, ◌∙◌, true≢false, arith, get_or}
use Rattle.std.specs.List.{list_any, AllByRecursion}
use Rattle.std.specs.List.Sorted.{IsStrictlySortedBy, IsBinarySearchResult, IsSearchInRange, IsNonDecreasingBy}
use Rattle.std.specs.Cmp.{IsTotalOrder}
use Rattle.std.specs.Ordering.{is_eq, is_gt, ordering_index, ordering_reverse}
use mathlib.Core.Logic.{⊎_elim}
use Rattle.std.proofs.lemmas.Bool.{cases_lt}
use Rattle.std.specs.declared.cmp.Ordering.{Ordering}
use Rattle.std.specs.declared.cmp.Ordering.TheVariants.{Less, Equal, Greater}
use Rattle.std.proofs.lemmas.Cmp.{tied_back, alike_right}
use Rattle.std.proofs.lemmas.Map.Keys.{Less-from_sorted}
use Rattle.cedar_types.specs.Capability.Entries.{HasOneMore}
use Rattle.cedar_types.proofs.Entries.Basics.{Equal≢Less, or_false, or_true, or_turned, or_regroup, there}
use Rattle.cedar_types.proofs.Entries.Ascending.{SortedBy}

module _ {K : Type 0} {cmp : K → K → Ordering} (o : IsTotalOrder cmp) where
  rank_mono : (a b x : K) → cmp a b ≡ Less → (r s : Ordering) → cmp a x ≡ r → cmp b x ≡ s → ordering_index r ≤ ordering_index s
  rank_mono a b x l Less Less p q = omega arith
  rank_mono a b x l Less Equal p q = omega arith
  rank_mono a b x l Less Greater p q = omega arith
  rank_mono a b x l Equal Less p q = Equal≢Less (sym p ∙ o.trans a b x l q)
  rank_mono a b x l Equal Equal p q = omega arith
  rank_mono a b x l Equal Greater p q = omega arith
  rank_mono a b x l Greater Less p q = absurd (true≢false (ap is_gt (sym p ∙ o.trans a b x l q)))
  rank_mono a b x l Greater Equal p q = absurd (true≢false (ap is_gt (sym p ∙ (sym (alike_right o b x a q) ∙ l))))
  rank_mono a b x l Greater Greater p q = omega arith

  rises : (xs : List K) (x : K) → SortedBy cmp xs → IsNonDecreasingBy (λ y. ordering_index (cmp y x)) xs
  rises xs x s i j d le lt = ⊎_elim
      (λ l. rank_mono (get_or xs i d) (get_or xs j d) x (Less-from_sorted cmp xs i j d s l lt)
      (cmp (get_or xs i d) x) (cmp (get_or xs j d) x) refl refl)
      (λ g. let e : i ≡ j = omega arith in
      subst (λ k. ordering_index (cmp (get_or xs i d) x)
      ≤ ordering_index (cmp (get_or xs k d) x)) e (omega arith))
      (cases_lt i j)

  any_at : (p : K → Bool) (xs : List K) (i : ℕ) → i < length xs → ((d : K) → p (get_or xs i d) ≡ true) → list_any p xs ≡ true
  any_at p [] i l h = let no : ⊥ = omega arith in absurd no
  any_at p (x ∷ xs) zero l h = λ i. h x i || list_any p xs
  any_at p (x ∷ xs) (suc i) l h = ap (λ b. p x || b) (any_at p xs i (omega arith) h) ∙ or_true (p x)

  none_at : (p : K → Bool) (xs : List K) → ((k : ℕ) (d : K) → k < length xs → p (get_or xs k d) ≡ false) → list_any p xs ≡ false
  none_at p [] h = refl
  none_at p (x ∷ xs) h = (λ i. h zero x (omega arith) i || list_any p xs) ∙ none_at p xs (λ k d l. h (suc k) d (omega arith))

  apart_less : (x y : K) → cmp y x ≡ Less → is_eq (cmp x y) ≡ false
  apart_less x y e = ap is_eq (o.antisymm x y) ∙ ap (λ r. is_eq (ordering_reverse r)) e

  apart_greater : (x y : K) → cmp y x ≡ Greater → is_eq (cmp x y) ≡ false
  apart_greater x y e = ap is_eq (o.antisymm x y) ∙ ap (λ r. is_eq (ordering_reverse r)) e

  pub search_is : (xs : List K) (x : K) (r : Result ℕ ℕ) → SortedBy cmp xs → IsSearchInRange r (length xs)
      → IsBinarySearchResult (λ y. cmp y x) xs r → is_ok r ≡ list_any (λ e. is_eq (cmp x e)) xs
  search_is xs x (Ok i) s l h = sym (any_at (λ e. is_eq (cmp x e)) xs i l (λ d. ap is_eq (tied_back o (get_or xs i d) x (h d))))
  search_is xs x (Err i) s l h =
      let parts = h (rises xs x s) in
      sym (none_at (λ e. is_eq (cmp x e)) xs (λ k d lt. ⊎_elim
      (λ b. apart_less x (get_or xs k d) (parts.0 k d (omega arith) b))
      (λ b. apart_greater x (get_or xs k d) (parts.1 k d b lt))
      (cases_lt k i)))

  -- An insertion into a list adds one entry to its members

  any_insert : (p : K → Bool) (xs : List K) (i : ℕ) (x : K) → list_any p (insert xs i x) ≡ (list_any p xs || p x)
  any_insert p xs zero x = or_turned (p x) (list_any p xs)
  any_insert p [] (suc i) x = or_false (p x)
  any_insert p (k ∷ ks) (suc i) x = ap (λ b. p k || b) (any_insert p ks i x) ∙ or_regroup (p k) (list_any p ks) (p x)

  all_insert : (P : K → Type 0) (xs : List K) (i : ℕ) (x : K) → AllByRecursion P xs → P x → AllByRecursion P (insert xs i x)
  all_insert P xs zero x h k = (k, h)
  all_insert P [] (suc i) x h k = (k, tt)
  all_insert P (y ∷ ys) (suc i) x h k = (h.0, all_insert P ys i x h.1 k)

  all_of : (P : K → Type 0) (xs : List K) → ((k : ℕ) (d : K) → k < length xs → P (get_or xs k d)) → AllByRecursion P xs
  all_of P [] h = tt
  all_of P (x ∷ xs) h = (h zero x (omega arith), all_of P xs (λ k d l. h (suc k) d (omega arith)))

  sorted_insert : (xs : List K) (i : ℕ) (x : K) → SortedBy cmp xs
      → ((k : ℕ) (d : K) → k < i → k < length xs → cmp (get_or xs k d) x ≡ Less)
      → ((k : ℕ) (d : K) → i ≤ k → k < length xs → cmp (get_or xs k d) x ≡ Greater) → SortedBy cmp (insert xs i x)
  unfolding IsStrictlySortedBy
  sorted_insert xs zero x s lo hi = (
    all_of (λ y. cmp x y ≡ Less) xs
        (λ j d l. o.antisymm x (get_or xs j d) ∙ ap ordering_reverse (hi j d (omega arith) l)),
    s,
  )
  sorted_insert [] (suc i) x s lo hi = (tt, tt)
  sorted_insert (k ∷ ks) (suc i) x s lo hi = (
    all_insert (λ y. cmp k y ≡ Less) ks i x s.0 (lo zero k (omega arith) (omega arith)),
    sorted_insert ks i x s.1 (λ j d a b. lo (suc j) d (omega arith) (omega arith)) (λ j d a b. hi (suc j) d (omega arith) (omega arith)),
  )

  -- An entry inserted at the gap that a search reports keeps the list sorted
  pub inserted_sorted : (xs : List K) (i : ℕ) (x : K) → SortedBy cmp xs
      → IsBinarySearchResult (λ y. cmp y x) xs (Err i) → SortedBy cmp (insert xs i x)
  inserted_sorted xs i x s h =
      let parts = h (rises xs x s) in
      sorted_insert xs i x s (λ k d a b. parts.0 k d (omega arith) a) parts.1

  pub inserted_more : (xs : List K) (i : ℕ) (x : K) → HasOneMore cmp xs x (insert xs i x)
  inserted_more xs i x = λ p q. any_insert p xs i x

  -- A search that ends at an entry shows that the set already has the entry
  pub there_already : (xs : List K) (i : ℕ) (x : K) → i < length xs → IsBinarySearchResult (λ y. cmp y x) xs (Ok i) → HasOneMore cmp xs x xs
  there_already xs i x l h = λ p q. there (p x) (list_any p xs) (λ t. any_at p xs i l (λ d. q.alike (get_or xs i d) x (h d) ∙ t))
