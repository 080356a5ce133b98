-- Facts about truth values, options and lists that several proofs use.
use Rattle.std.proofs.Common.{◌≡◌, Bool, true, false, ◌||◌, not, List, ◌∷◌, Some, None, refl}
use Rattle.cedar_types.proofs.Schema.Listings.{or_left as none_left, or_right as none_right}
pub mod Members
pub mod Gains

pub some_is : {A : Type 0} {x y : A} → Some x ≡ Some y → x ≡ y
some_is e = cc

pub none_is : {A : Type 0} {x : A} → None ≡ Some x → ⊥
none_is e = cc

pub first_is : {A : Type 0} {x y : A} {xs ys : List A} → x ∷ xs ≡ y ∷ ys → x ≡ y
first_is e = cc

pub rest_is : {A : Type 0} {x y : A} {xs ys : List A} → x ∷ xs ≡ y ∷ ys → xs ≡ ys
rest_is e = cc

pub not_true : (b : Bool) → not b ≡ true → b ≡ false
not_true true h = cc
not_true false h = refl

pub or_left : (a b : Bool) → a ≡ true → (a || b) ≡ true
or_left true b h = refl
or_left false b h = cc

pub or_right : (a b : Bool) → b ≡ true → (a || b) ≡ true
or_right true b h = refl
or_right false b h = h

-- a statement that follows from either of two facts follows from their disjunction
pub or_cases : (a b : Bool) (P : Type 0) → (a ≡ true → P) → (b ≡ true → P) → (a || b) ≡ true → P
or_cases true b P f g h = f refl
or_cases false b P f g h = g h

-- if a disjunction is false, each side is false
pub neither_left : (a b : Bool) → (a || b) ≡ false → a ≡ false
neither_left = none_left

pub neither_right : (a b : Bool) → (a || b) ≡ false → b ≡ false
neither_right = none_right
