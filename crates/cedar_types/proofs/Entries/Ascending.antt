-- Lists in strictly ascending order: their heads, their tails, and one entry more at the end.
use Rattle.std.proofs.Common.{◌≡◌, true≢false, List, [], ◌∷◌, ◌++◌, sym, ap, ◌∙◌}
use Rattle.std.specs.List.{AllByRecursion}
use Rattle.std.specs.List.Sorted.{IsStrictlySortedBy}
use Rattle.std.specs.Cmp.{IsTotalOrder, tied_itself}
use Rattle.std.specs.Ordering.{is_lt, ordering_reverse}
use Rattle.std.specs.declared.cmp.Ordering.{Ordering}
use Rattle.std.specs.declared.cmp.Ordering.TheVariants.{Less, Equal, Greater}
use Rattle.std.proofs.lemmas.Cmp.{alike_right}
use Rattle.cedar_types.specs.Capability.Entries.{IsBelowHead}
use Rattle.cedar_types.proofs.Entries.Basics.{all_map, all_push}

module _ {K : Type 0} (cmp : K → K → Ordering) where
  -- A list is in strictly ascending order
  abbrev pub SortedBy : List K → Type 0
  SortedBy = IsStrictlySortedBy cmp

  -- The entry x is below each of ys
  abbrev pub BelowBy : K → List K → Type 0
  BelowBy x ys = AllByRecursion (λ y. cmp x y ≡ Less) ys

  -- Each of xs is below each of ys
  abbrev pub UnderBy : List K → List K → Type 0
  UnderBy xs ys = AllByRecursion (λ x. BelowBy x ys) xs

module _ {K : Type 0} {cmp : K → K → Ordering} (o : IsTotalOrder cmp) where
  abbrev Sorted : List K → Type 0
  Sorted = SortedBy cmp

  abbrev Below : K → List K → Type 0
  Below = BelowBy cmp

  abbrev Under : List K → List K → Type 0
  Under = UnderBy cmp

  pub turned : (x y : K) → cmp x y ≡ Greater → cmp y x ≡ Less
  turned x y e = o.antisymm y x ∙ ap ordering_reverse e

  pub not_below_itself : (x : K) → cmp x x ≡ Less → ⊥
  not_below_itself x e = true≢false (sym (ap is_lt (sym (tied_itself o x) ∙ e)))

  pub not_both_ways : (x y : K) → cmp x y ≡ Less → cmp y x ≡ Less → ⊥
  not_both_ways x y e f = not_below_itself x (o.trans x y x e f)

  pub below_more : (x y : K) (zs : List K) → cmp x y ≡ Less → Below y zs → Below x zs
  below_more x y zs h = all_map (λ z. o.trans x y z h) zs

  pub below_alike : (c x : K) (ys : List K) → cmp c x ≡ Equal → Below x ys → Below c ys
  below_alike c x ys e = all_map (λ y b. o.congr c x y e ∙ b) ys

  pub sorted_head : (y : K) (ys : List K) → Sorted (y ∷ ys) → Below y ys
  unfolding IsStrictlySortedBy
  sorted_head y ys s = s.0

  pub sorted_tail : (y : K) (ys : List K) → Sorted (y ∷ ys) → Sorted ys
  unfolding IsStrictlySortedBy
  sorted_tail y ys s = s.1

  pub sorted_none : Sorted []
  unfolding IsStrictlySortedBy
  sorted_none = tt

  pub sorted_one : (x : K) → Sorted (x ∷ [])
  unfolding IsStrictlySortedBy
  sorted_one x = (tt, tt)

  pub below_head : (x : K) (ys : List K) → IsBelowHead cmp x ys → Sorted ys → Below x ys
  below_head x [] h s = tt
  below_head x (y ∷ ys) h s = (h, below_more x y ys h (sorted_head y ys s))

  pub sorted_push : (xs : List K) (c : K) → Sorted xs → AllByRecursion (λ x. cmp x c ≡ Less) xs → Sorted (xs ++ c ∷ [])
  unfolding IsStrictlySortedBy
  sorted_push [] c s h = (tt, tt)
  sorted_push (x ∷ xs) c s h = (all_push (λ y. cmp x y ≡ Less) xs c s.0 h.0, sorted_push xs c s.1 h.1)

  -- Entries below x are below c, because c ties with x
  pub under_head : (zs : List K) (c x : K) (xs : List K) → cmp c x ≡ Equal → Under zs (x ∷ xs) → AllByRecursion (λ a. cmp a c ≡ Less) zs
  under_head zs c x xs e = all_map (λ a h. alike_right o c x a e ∙ h.0) zs

  pub under_push : (zs : List K) (c : K) (ys : List K) → Under zs ys → Below c ys → Under (zs ++ c ∷ []) ys
  under_push zs c ys = all_push (λ x. Below x ys) zs c

  pub under_tail : (zs : List K) (x : K) (xs : List K) → Under zs (x ∷ xs) → Under zs xs
  under_tail zs x xs = all_map (λ a h. h.1) zs
