-- Lists and truth values: facts for walks over two lists.
use Rattle.std.proofs.Common.{◌≡◌, suc, ◌+◌, ◌<◌, Bool, true, false, ◌&&◌, ◌||◌, List, [], ◌∷◌, ◌++◌, length, refl, sym, ap, ◌∙◌}
use Rattle.std.proofs.Common.{true≢false, arith}
use Rattle.std.specs.List.{list_any, AllByRecursion}
use Rattle.std.proofs.lemmas.List.Folds.{list_any-append}
use Rattle.std.specs.Ordering.{is_eq}
use Rattle.std.specs.declared.cmp.Ordering.TheVariants.{Less, Equal}

-- A property of all elements gives each property that it implies
pub all_map : {X : Type 0} {P Q : X → Type 0} → ((x : X) → P x → Q x) → (xs : List X) → AllByRecursion P xs → AllByRecursion Q xs
all_map f [] h = tt
all_map f (x ∷ xs) h = (f x h.0, all_map f xs h.1)

pub all_push : {X : Type 0} (P : X → Type 0) → (xs : List X) (y : X) → AllByRecursion P xs → P y → AllByRecursion P (xs ++ y ∷ [])
all_push P [] y h k = (k, tt)
all_push P (x ∷ xs) y h k = (h.0, all_push P xs y h.1 k)

pub or_false : (b : Bool) → (b || false) ≡ b
or_false true = refl
or_false false = refl

pub or_true : (b : Bool) → (b || true) ≡ true
or_true true = refl
or_true false = refl

pub or_turned : (a b : Bool) → (a || b) ≡ (b || a)
or_turned true true = refl
or_turned true false = refl
or_turned false true = refl
or_turned false false = refl

pub or_regroup : (a b c : Bool) → (a || (b || c)) ≡ ((a || b) || c)
or_regroup true b c = refl
or_regroup false b c = refl

pub there : (b a : Bool) → (b ≡ true → a ≡ true) → a ≡ (a || b)
there true true h = refl
there true false h = h refl
there false a h = sym (or_false a)

-- Tests of some elements of a list with one more entry at the end
pub any_push : {X : Type 0} (p : X → Bool) (xs : List X) (y : X) → list_any p (xs ++ y ∷ []) ≡ (list_any p xs || p y)
any_push p xs y = list_any-append p xs (y ∷ []) ∙ ap (λ b. list_any p xs || b) (or_false (p y))

pub none_where : {X : Type 0} (p : X → Bool) (xs : List X) → AllByRecursion (λ x. p x ≡ false) xs → list_any p xs ≡ false
none_where p [] h = refl
none_where p (x ∷ xs) h = (λ i. h.0 i || list_any p xs) ∙ none_where p xs h.1

pub from_left : (a x l r : Bool) → ((a || x) || (l || r)) ≡ (a || ((x || l) || r))
from_left true x l r = refl
from_left false true l r = refl
from_left false false l r = refl

pub from_right : (a x l r : Bool) → ((a || x) || (l || r)) ≡ (a || (l || (x || r)))
from_right true x l r = refl
from_right false true true r = refl
from_right false true false r = refl
from_right false false l r = refl

pub from_both : (a x l r : Bool) → ((a || x) || (l || r)) ≡ (a || ((x || l) || (x || r)))
from_both true x l r = refl
from_both false true l r = refl
from_both false false true r = refl
from_both false false false r = refl

pub common_both : (a x l r : Bool) → ((a || x) || (l && r)) ≡ (a || ((x || l) && (x || r)))
common_both true x l r = refl
common_both false true l r = refl
common_both false false l r = refl

pub drop_left : (a x l r : Bool) → (x ≡ true → r ≡ false) → (a || (l && r)) ≡ (a || ((x || l) && r))
drop_left true x l r h = refl
drop_left false true true r h = refl
drop_left false true false r h = sym (h refl)
drop_left false false l r h = refl

pub drop_right : (a x l r : Bool) → (x ≡ true → l ≡ false) → (a || (l && r)) ≡ (a || (l && (x || r)))
drop_right true x l r h = refl
drop_right false true true r h = absurd (true≢false (h refl))
drop_right false true false r h = refl
drop_right false false l r h = refl

pub empty : {K : Type 0} (xs : List K) → length xs ≡ 0 → xs ≡ []
empty [] e = refl
empty (x ∷ xs) e = let no : ⊥ = omega arith in absurd no

pub both_smaller : {K : Type 0} (ls rs : List K) (x y : K) (xs ys : List K) → ls ≡ x ∷ xs → rs ≡ y ∷ ys
    → length xs + length ys < length ls + length rs
both_smaller ls rs x y xs ys a b =
    let p : length ls ≡ suc (length xs) = ap length a in
    let q : length rs ≡ suc (length ys) = ap length b in
    omega arith

pub left_smaller : {K : Type 0} (ls rs : List K) (x : K) (xs : List K) → ls ≡ x ∷ xs → length xs + length rs < length ls + length rs
left_smaller ls rs x xs a =
    let p : length ls ≡ suc (length xs) = ap length a in
    omega arith

pub right_smaller : {K : Type 0} (ls rs : List K) (y : K) (ys : List K) → rs ≡ y ∷ ys → length ls + length ys < length ls + length rs
right_smaller ls rs y ys a =
    let p : length rs ≡ suc (length ys) = ap length a in
    omega arith

-- The orderings Equal and Less differ
pub Equal≢Less : {A : Type 0} → Equal ≡ Less → A
Equal≢Less e = absurd (true≢false (ap is_eq e))
