-- The greatest of some levels, and of one more.
use Rattle.std.proofs.Common.{◌≡◌, ℕ, zero, suc, ◌+◌, ◌≤◌, ◌<◌, ◌⊎◌, inl, inr, List, [], ◌∷◌, ◌++◌, map, take, length, get_or}
use Rattle.std.proofs.Common.{Option, Some, None, sym, ap, ◌∙◌, subst, arith}
use Rattle.cedar_typing.specs.Evaluation.Conformance.{IsOneOf}
use Rattle.cedar_typing.proofs.Basics.Members.{in_left, in_right}
use Rattle.cedar_typechecker.proofs.Levels.Inclusions.{in_either}
use Rattle.cedar_types.proofs.Schema.Places.{next_mapped}
use Rattle.cedar_host.specs.SetLevels.{IsGreatest}

-- a member of the first ones is a member of all
pub in_taken : {A B : Type 0} (f : A → B) (i : ℕ) (xs : List A) (y : B) → IsOneOf y (map f (take i xs))
    → IsOneOf y (map f xs)
in_taken f zero [] y h = h
in_taken f zero (x ∷ xs) y h = absurd h
in_taken f (suc n) [] y h = h
in_taken f (suc n) (x ∷ xs) y (inl e) = inl e
in_taken f (suc n) (x ∷ xs) y (inr h) = inr (in_taken f n xs y h)

module _ {A : Type 0} (f : A → Option ℕ) (xs : List A) (i : ℕ) (x : A) (below : i < length xs)
    (is : x ≡ get_or xs i x) where
  one_more : map f (take (i + 1) xs) ≡ map f (take i xs) ++ f x ∷ []
  one_more = next_mapped f xs i x below is

  -- if no level is enough for one policy, there is one without a level
  pub none_there : f x ≡ None → IsOneOf None (map f xs)
  none_there e =
      in_taken f (i + 1) xs None
      (subst (IsOneOf None) (sym one_more)
      (in_right None (map f (take i xs)) (f x ∷ []) (inl (sym e))))

  module _ (n m n' : ℕ) (h : IsGreatest (map f (take i xs)) n) (of_this : f x ≡ Some m) (old : n ≤ n')
      (this : m ≤ n') (one : (n' ≡ n) ⊎ (n' ≡ m)) where
    abbrev before : List (Option ℕ)
    before = map f (take i xs)

    abbrev all : List (Option ℕ)
    all = before ++ f x ∷ []

    of_before : (l : Option ℕ) → (k : ℕ) × (l ≡ Some k) × (k ≤ n) → (k : ℕ) × (l ≡ Some k) × (k ≤ n')
    of_before l (k, e, le) = (k, e, omega arith)

    enough : (l : Option ℕ) → IsOneOf l all → (k : ℕ) × (l ≡ Some k) × (k ≤ n')
    enough l i =
        in_either before (f x ∷ []) l ((k : ℕ) × (l ≡ Some k) × (k ≤ n')) i
        (λ j. of_before l (h.enough l j))
        (elim [ inl e ↦ (m, e ∙ of_this, this) | inr j ↦ absurd j ])

    needed_before : n' ≡ n → (n ≡ 0) ⊎ IsOneOf (Some n) before → (n' ≡ 0) ⊎ IsOneOf (Some n') all
    needed_before e (inl z) = inl (e ∙ z)
    needed_before e (inr j) =
        inr (in_left (Some n') before (f x ∷ []) (subst (λ k. IsOneOf (Some k) before) (sym e) j))

    needed : (n' ≡ n) ⊎ (n' ≡ m) → (n' ≡ 0) ⊎ IsOneOf (Some n') all
    needed (inl e) = needed_before e h.needed
    needed (inr e) =
        inr (in_right (Some n') before (f x ∷ []) (inl (ap (λ k. Some k) e ∙ sym of_this)))

    pub greatest_too : IsGreatest (map f (take (i + 1) xs)) n'
    greatest_too =
        subst (λ ls. IsGreatest ls n') (sym one_more) (record { enough = enough; needed = needed one })
