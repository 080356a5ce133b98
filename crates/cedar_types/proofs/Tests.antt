-- Tests of some or all elements of a list.
use Rattle.std.proofs.Common.{◌≡◌, refl, sym, ap, ◌∙◌, arith, Bool, true, false, ◌||◌, ◌&&◌, not, List, [], ◌∷◌}
use Rattle.std.specs.List.{list_any, list_all}
use Rattle.std.proofs.Math.Bool.{or-true}

-- The element x is in the list: if x passes a test, some element passes it
pub record Within {X : Type 0} (x : X) (xs : List X) : Type 0 where
  pub passes : (p : X → Bool) → p x ≡ true → list_any p xs ≡ true

-- An element that passes, and is in the list
pub record Found {X : Type 0} (p : X → Bool) (xs : List X) : Type 0 where
  pub element : X
  pub passes : p element ≡ true
  pub within : Within element xs

pub found : {X : Type 0} (p : X → Bool) (xs : List X) → list_any p xs ≡ true → Found p xs
found p [] h = cc
found p (x ∷ xs) h = along (p x) refl h (found p xs)
  where
    along : (b : Bool) → b ≡ p x → (b || list_any p xs) ≡ true → (list_any p xs ≡ true → Found p xs) → Found p (x ∷ xs)
    along true e h k = record { element = x; passes = sym e; within = record { passes = λ q t. ap (λ b. b || list_any q xs) t } }
    along false e h k =
        let r =
        k h in record {
          element = r.element;
          passes = r.passes;
          within =
              record { passes = λ q t. ap (λ b. q x || b) (r.within.passes q t) ∙ or-true (q x) };
        }

none_fails : {X : Type 0} (p : X → Bool) (xs : List X) → list_all p xs ≡ true → list_any (λ x. not (p x)) xs ≡ false
none_fails p [] h = refl
none_fails p (x ∷ xs) h = along (p x) h (none_fails p xs)
  where
    along : (b : Bool) → (b && list_all p xs) ≡ true → (list_all p xs ≡ true → list_any (λ y. not (p y)) xs ≡ false)
        → (not b || list_any (λ y. not (p y)) xs) ≡ false
    along true h k = k h
    along false h k = cc

-- An element passes each test that all elements pass
pub each : {X : Type 0} (p : X → Bool) (xs : List X) (x : X) → list_all p xs ≡ true → Within x xs → p x ≡ true
each p xs x h w = settle (p x) refl
  where
    settle : (b : Bool) → b ≡ p x → p x ≡ true
    settle true e = sym e
    settle false e =
        let one : list_any (λ y. not (p y)) xs ≡ true = w.passes (λ y. not (p y)) (ap not (sym e)) in
        let no : list_any (λ y. not (p y)) xs ≡ false = none_fails p xs h in cc

pub and_left : (a b : Bool) → (a && b) ≡ true → a ≡ true
and_left true b h = refl
and_left false b h = h

pub and_right : (a b : Bool) → (a && b) ≡ true → b ≡ true
and_right true b h = h
and_right false b h = cc

pub and_both : (a b : Bool) → a ≡ true → b ≡ true → (a && b) ≡ true
and_both a b h k = ap (λ r. r && b) h ∙ k

-- Both tests are false if their disjunction is false
pub or_left : (a b : Bool) → (a || b) ≡ false → a ≡ false
or_left a b h = grind arith

pub or_right : (a b : Bool) → (a || b) ≡ false → b ≡ false
or_right a b h = grind arith

-- Two tests are equal if each implies the other
pub alike : (a b : Bool) → (a ≡ true → b ≡ true) → (b ≡ true → a ≡ true) → a ≡ b
alike true b h k = sym (h refl)
alike false true h k = k refl
alike false false h k = refl
