-- Lists in strictly ascending order, as sets.
use Rattle.std.specs.Prelude.{◌≡◌, Bool, true, ◌&&◌, ◌||◌, List, [], ◌∷◌, ⊤}
use Rattle.std.specs.List.{list_any}
use Rattle.std.specs.declared.cmp.Ordering.{Ordering}
use Rattle.std.specs.declared.cmp.Ordering.TheVariants.{Less, Equal}

-- p picks out one entry, as the order tells entries apart: it takes both of two equal entries, and
-- no two others
pub record IsPoint {K : Type 0} (cmp : K → K → Ordering) (p : K → Bool) : Type 0 where
  pub alike : (x y : K) → cmp x y ≡ Equal → p x ≡ p y
  pub alone : (x y : K) → p x ≡ true → p y ≡ true → cmp x y ≡ Equal

-- zs has the entries of either list, or those of both, or those of xs and x, or those of xs
abbrev pub HasEither : {K : Type 0} → (K → K → Ordering) → List K → List K → List K → Type 0
HasEither {K} cmp xs ys zs =
    (p : K → Bool) → IsPoint cmp p → list_any p zs ≡ (list_any p xs || list_any p ys)

abbrev pub HasBoth : {K : Type 0} → (K → K → Ordering) → List K → List K → List K → Type 0
HasBoth {K} cmp xs ys zs =
    (p : K → Bool) → IsPoint cmp p → list_any p zs ≡ (list_any p xs && list_any p ys)

abbrev pub HasOneMore : {K : Type 0} → (K → K → Ordering) → List K → K → List K → Type 0
HasOneMore {K} cmp xs x zs =
    (p : K → Bool) → IsPoint cmp p → list_any p zs ≡ (list_any p xs || p x)

abbrev pub HasSame : {K : Type 0} → (K → K → Ordering) → List K → List K → Type 0
HasSame {K} cmp xs zs =
    (p : K → Bool) → IsPoint cmp p → list_any p zs ≡ list_any p xs

-- x is below the first of ys, if there is one
abbrev pub IsBelowHead : {K : Type 0} → (K → K → Ordering) → K → List K → Type 0
IsBelowHead cmp x [] = ⊤
IsBelowHead cmp x (y ∷ ys) = cmp x y ≡ Less

-- x is the first entry of ls and rs, and xs and ys are the rest of them
pub data IsFirst {K : Type 0} (cmp : K → K → Ordering) (ls rs : List K) (x : K) (xs ys : List K) : Type 0 where
  left_first : ls ≡ x ∷ xs → ys ≡ rs → IsBelowHead cmp x rs → IsFirst cmp ls rs x xs ys
  right_first : rs ≡ x ∷ ys → xs ≡ ls → IsBelowHead cmp x ls → IsFirst cmp ls rs x xs ys
  both_first : (y : K) → ls ≡ x ∷ xs → rs ≡ y ∷ ys → cmp x y ≡ Equal → IsFirst cmp ls rs x xs ys
