-- Lists that gain members, in any order and with repeats.
use Rattle.std.proofs.Common.{◌≡◌, List, [], ◌∷◌, ◌++◌, ◌⊎◌, inl, inr, refl, ap}
use Rattle.cedar_typing.specs.Evaluation.Conformance.{IsOneOf}
use Rattle.cedar_typing.specs.PolicyCheck.Outcome.{Adds}
use Rattle.cedar_typing.proofs.Basics.Gains.{in_either}
use Rattle.cedar_typing.proofs.Basics.Members.{in_left, in_right}

-- ---- lists that gain members

module _ {A : Type 0} where
  pub joined_again : (xs ys zs : List A) → (xs ++ ys) ++ zs ≡ xs ++ (ys ++ zs)
  joined_again [] ys zs = refl
  joined_again (x ∷ xs) ys zs = ap (λ us. x ∷ us) (joined_again xs ys zs)

  pub nil_right : (xs : List A) → xs ++ [] ≡ xs
  nil_right [] = refl
  nil_right (x ∷ xs) = ap (λ ys. x ∷ ys) (nil_right xs)

  pub from_either : (x : A) (xs ys : List A) → IsOneOf x xs ⊎ IsOneOf x ys → IsOneOf x (xs ++ ys)
  from_either x xs ys (inl h) = in_left x xs ys h
  from_either x xs ys (inr h) = in_right x xs ys h

  pub swapped : (x : A) (xs ys : List A) → IsOneOf x (xs ++ ys) → IsOneOf x (ys ++ xs)
  swapped x xs ys h = go (in_either x xs ys h)
    where
      go : IsOneOf x xs ⊎ IsOneOf x ys → IsOneOf x (ys ++ xs)
      go (inl k) = in_right x ys xs k
      go (inr k) = in_left x ys xs k

  pub once : (x : A) (xs : List A) → IsOneOf x (xs ++ xs) → IsOneOf x xs
  once x xs h = go (in_either x xs xs h)
    where
      go : IsOneOf x xs ⊎ IsOneOf x xs → IsOneOf x xs
      go (inl k) = k
      go (inr k) = k

  pub without_end : (x : A) (xs : List A) → IsOneOf x (xs ++ []) → IsOneOf x xs
  without_end x xs h = go (in_either x xs [] h)
    where
      go : IsOneOf x xs ⊎ IsOneOf x [] → IsOneOf x xs
      go (inl k) = k
      go (inr k) = absurd k

  pub adds_none : (old : List A) → Adds old [] old
  adds_none old x = (in_left x old [], without_end x old)

  -- the gained members may be replaced by another list with the same members
  pub adds_alike : (old xs ys new : List A) → ((x : A) → IsOneOf x xs → IsOneOf x ys)
      → ((x : A) → IsOneOf x ys → IsOneOf x xs) → Adds old xs new → Adds old ys new
  adds_alike old xs ys new f g h x =
      (λ k. to (in_either x old xs ((h x).0 k)), λ k. (h x).1 (from (in_either x old ys k)))
    where
      to : IsOneOf x old ⊎ IsOneOf x xs → IsOneOf x (old ++ ys)
      to (inl k) = in_left x old ys k
      to (inr k) = in_right x old ys (f x k)

      from : IsOneOf x old ⊎ IsOneOf x ys → IsOneOf x (old ++ xs)
      from (inl k) = in_left x old xs k
      from (inr k) = in_right x old xs (g x k)

  -- two gains, one after the other
  pub adds_both : (old xs mid ys new : List A) → Adds old xs mid → Adds mid ys new
      → Adds old (xs ++ ys) new
  adds_both old xs mid ys new h k x =
      (λ i. to (in_either x mid ys ((k x).0 i)), λ i. (k x).1 (from (in_either x old (xs ++ ys) i)))
    where
      later : IsOneOf x old ⊎ IsOneOf x xs → IsOneOf x (old ++ (xs ++ ys))
      later (inl i) = in_left x old (xs ++ ys) i
      later (inr i) = in_right x old (xs ++ ys) (in_left x xs ys i)

      to : IsOneOf x mid ⊎ IsOneOf x ys → IsOneOf x (old ++ (xs ++ ys))
      to (inl i) = later (in_either x old xs ((h x).0 i))
      to (inr i) = in_right x old (xs ++ ys) (in_right x xs ys i)

      earlier : IsOneOf x xs ⊎ IsOneOf x ys → IsOneOf x (mid ++ ys)
      earlier (inl i) = in_left x mid ys ((h x).1 (in_right x old xs i))
      earlier (inr i) = in_right x mid ys i

      from : IsOneOf x old ⊎ IsOneOf x (xs ++ ys) → IsOneOf x (mid ++ ys)
      from (inl i) = in_left x mid ys ((h x).1 (in_left x old xs i))
      from (inr i) = earlier (in_either x xs ys i)
