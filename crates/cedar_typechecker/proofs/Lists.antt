-- Lists with the same members, and lists without repeats.
use Rattle.std.proofs.Common.{◌≡◌, refl, sym, ap, ◌∙◌, Bool, true, false, ◌||◌, cond, List, [], ◌∷◌, map, Option, Some, None, is_some, option_map}
use Rattle.std.specs.Bool.{Decides}
use Rattle.std.specs.List.{list_any, find, flat_map, AllByRecursion, IsDistinct}
use Rattle.std.proofs.Math.Bool.{or-true}
use Rattle.std.proofs.lemmas.Bool.Decides.{same_from_decides}
use Rattle.std.proofs.lemmas.List.Folds.{list_any-append}
use Rattle.cedar_types.specs.Schemas.{has_repeat}
use Rattle.cedar_types.proofs.Schema.Listings.{or_left, or_right}
use Rattle.cedar_types.proofs.Schema.Places.{any_mapped}

-- ---- the same members

module _ {X : Type 0} (same : X → X → Bool) (decides : (x y : X) → Decides (same x y) (x ≡ y)) (p : X → Bool) where
  -- a list that has x passes a test if x does
  passed_by : (x : X) (ys : List X) → list_any (same x) ys ≡ true → p x ≡ true → list_any p ys ≡ true
  passed_by x [] h k = cc
  passed_by x (y ∷ ys) h k = along (same x y) refl (λ m. passed_by x ys m k) h
    where
      along : (b : Bool) → b ≡ same x y → (list_any (same x) ys ≡ true → list_any p ys ≡ true)
          → (b || list_any (same x) ys) ≡ true → (p y || list_any p ys) ≡ true
      along true e later h = ap (λ r. r || list_any p ys) (ap p (sym ((decides x y).0 (sym e))) ∙ k)
      along false e later h = ap (λ r. p y || r) (later h) ∙ or-true (p y)

  -- a list that has all members of another passes a test if the other does
  covered : (xs ys : List X) → ((x : X) → list_any (same x) xs ≡ true → list_any (same x) ys ≡ true)
      → list_any p xs ≡ true → list_any p ys ≡ true
  covered [] ys h k = cc
  covered (x ∷ xs) ys h k = along (p x) refl (covered xs ys (λ z m. h z (ap (λ b. same z x || b) m ∙ or-true (same z x)))) k
    where
      there : list_any (same x) (x ∷ xs) ≡ true
      there = ap (λ b. b || list_any (same x) xs) ((decides x x).1 refl)

      along : (b : Bool) → b ≡ p x → (list_any p xs ≡ true → list_any p ys ≡ true) → (b || list_any p xs) ≡ true → list_any p ys ≡ true
      along true e later k = passed_by x ys (h x there) (sym e)
      along false e later k = later k

  -- lists with the same members pass alike
  pub pass_alike : (xs ys : List X) → ((x : X) → list_any (same x) xs ≡ list_any (same x) ys) → list_any p xs ≡ list_any p ys
  pass_alike xs ys h =
      same_from_decides {P = list_any p ys ≡ true} (list_any p xs) (list_any p ys)
      (covered xs ys (λ x k. sym (h x) ∙ k), covered ys xs (λ x k. h x ∙ k))
      (λ k. k, λ k. k)

-- a test of the members to which each member is mapped
pub any_of_all : {X Y : Type 0} (p : Y → Bool) (f : X → List Y) (xs : List X)
    → list_any p (flat_map f xs) ≡ list_any (λ x. list_any p (f x)) xs
any_of_all p f [] = refl
any_of_all p f (x ∷ xs) = list_any-append p (f x) (flat_map f xs) ∙ ap (λ b. list_any p (f x) || b) (any_of_all p f xs)

-- ---- no repeats

module _ {X : Type 0} (same : X → X → Bool) where
  all_fail : (p : X → Bool) (xs : List X) → list_any p xs ≡ false → AllByRecursion (λ x. p x ≡ false) xs
  all_fail p [] h = tt
  all_fail p (x ∷ xs) h = (or_left (p x) (list_any p xs) h, all_fail p xs (or_right (p x) (list_any p xs) h))

  none_passes : (p : X → Bool) (xs : List X) → AllByRecursion (λ x. p x ≡ false) xs → list_any p xs ≡ false
  none_passes p [] h = refl
  none_passes p (x ∷ xs) h = λ i. h.0 i || none_passes p xs h.1 i

  pub distinct_from : (xs : List X) → has_repeat same xs ≡ false → IsDistinct same xs
  unfolding IsDistinct
  distinct_from [] h = tt
  distinct_from (x ∷ xs) h = (
    all_fail (same x) xs (or_left (list_any (same x) xs) (has_repeat same xs) h),
    distinct_from xs (or_right (list_any (same x) xs) (has_repeat same xs) h),
  )

  pub apart_from : (xs : List X) → IsDistinct same xs → has_repeat same xs ≡ false
  unfolding IsDistinct
  apart_from [] d = refl
  apart_from (x ∷ xs) d = λ i. none_passes (same x) xs d.0 i || apart_from xs d.1 i

pub repeat_mapped : {X Y : Type 0} (f : X → Y) (same : Y → Y → Bool) (xs : List X)
    → has_repeat same (map f xs) ≡ has_repeat (λ x y. same (f x) (f y)) xs
repeat_mapped f same [] = refl
repeat_mapped f same (x ∷ xs) = λ i. sym (any_mapped f (same (f x)) xs) i || repeat_mapped f same xs i

-- ---- searches

-- a search finds a member iff some member passes
pub found_some : {X : Type 0} (p : X → Bool) (xs : List X) → is_some (find p xs) ≡ list_any p xs
found_some p [] = refl
found_some p (x ∷ xs) = at (p x) (found_some p xs)
  where
    at : (b : Bool) → is_some (find p xs) ≡ list_any p xs → is_some (cond b (Some x) (find p xs)) ≡ (b || list_any p xs)
    at true h = refl
    at false h = h

-- a value is there iff its image is
pub mapped_some : {X Y : Type 0} (f : X → Y) (o : Option X) → is_some (option_map f o) ≡ is_some o
mapped_some f None = refl
mapped_some f (Some x) = refl
