-- Members of lists: of lists put together, and tests of all members or of some.
use Rattle.std.proofs.Common.{◌≡◌, inl, inr, Bool, true, false, cond, List, [], ◌∷◌, ◌++◌, map, Option, Some, refl, sym, ap, subst}
use Rattle.std.proofs.lemmas.List.Elements.{All-from_recursion, recursion_from_All}
use Rattle.std.proofs.lemmas.List.Sorted.{All-permutation, IsPermutation-sym}
use Rattle.std.specs.List.{list_all, list_any, find, flat_map, AllByRecursion}
use Rattle.std.specs.Prelude.{All, IsPermutation}
use Rattle.cedar_types.specs.Lemmas.Comparisons.{and_left, and_right, path_same}
use Rattle.cedar_types.specs.Names.{Path, path_eq}
use Rattle.cedar_types.specs.Schemas.{is_among}
use Rattle.cedar_typing.specs.Evaluation.Conformance.{IsOneOf}
use Rattle.cedar_typing.proofs.Basics.{some_is, neither_left, neither_right, or_cases}

-- P holds of each member
abbrev pub AreAll : {A : Type 0} → (A → Type 0) → List A → Type 0
AreAll {A} P xs = (x : A) → IsOneOf x xs → P x

-- ---- statements on each member

module _ {A : Type 0} where
  module _ (P : A → Type 0) where
    pub by_recursion : (xs : List A) → AreAll P xs → AllByRecursion P xs
    by_recursion [] f = tt
    by_recursion (x ∷ xs) f = (f x (inl refl), by_recursion xs (λ z h. f z (inr h)))

    pub one_of_all : (xs : List A) → AllByRecursion P xs → AreAll P xs
    one_of_all [] h x k = absurd k
    one_of_all (y ∷ xs) h x (inl e) = subst P (sym e) h.0
    one_of_all (y ∷ xs) h x (inr k) = one_of_all xs h.1 x k

    pub each_one : (xs : List A) → All P xs → AreAll P xs
    each_one xs h = one_of_all xs (recursion_from_All P xs h)

    -- P holds of each member of the list in another order
    pub reordered : (xs ys : List A) → IsPermutation xs ys → AreAll P xs → AreAll P ys
    reordered xs ys p f =
        each_one ys (All-permutation P xs ys p (All-from_recursion P xs (by_recursion xs f)))

  -- a list in another order has the same members
  pub moved : (xs ys : List A) → IsPermutation xs ys → (x : A) → IsOneOf x xs → IsOneOf x ys
  moved xs ys p = reordered (λ x. IsOneOf x ys) ys xs (IsPermutation-sym xs ys p) (λ x h. h)

-- ---- lists put together

module _ {A : Type 0} where
  pub in_left : (x : A) (xs ys : List A) → IsOneOf x xs → IsOneOf x (xs ++ ys)
  in_left x [] ys h = absurd h
  in_left x (y ∷ xs) ys (inl e) = inl e
  in_left x (y ∷ xs) ys (inr h) = inr (in_left x xs ys h)

  pub in_right : (x : A) (xs ys : List A) → IsOneOf x ys → IsOneOf x (xs ++ ys)
  in_right x [] ys h = h
  in_right x (y ∷ xs) ys h = inr (in_right x xs ys h)

  pub all_joined : (P : A → Type 0) (xs ys : List A) → AreAll P xs → AreAll P ys → AreAll P (xs ++ ys)
  all_joined P [] ys f g x h = g x h
  all_joined P (y ∷ xs) ys f g x (inl e) = f x (inl e)
  all_joined P (y ∷ xs) ys f g x (inr h) = all_joined P xs ys (λ z k. f z (inr k)) g x h

  -- the image of a member is a member of the images
  pub in_mapped : {B : Type 0} (f : B → A) (b : B) (bs : List B) → IsOneOf b bs → IsOneOf (f b) (map f bs)
  in_mapped f b [] h = absurd h
  in_mapped f b (c ∷ bs) (inl e) = inl (ap f e)
  in_mapped f b (c ∷ bs) (inr h) = inr (in_mapped f b bs h)

  -- P holds of each image
  pub all_mapped : {B : Type 0} (P : A → Type 0) (f : B → A) (bs : List B) → ((b : B) → IsOneOf b bs → P (f b)) → AreAll P (map f bs)
  all_mapped P f [] h x k = absurd k
  all_mapped P f (b ∷ bs) h x (inl e) = subst P (sym e) (h b (inl refl))
  all_mapped P f (b ∷ bs) h x (inr k) = all_mapped P f bs (λ c i. h c (inr i)) x k

  module _ {B : Type 0} (f : B → List A) where
    -- a member of the list of one element is a member of all lists joined
    pub in_flat : (x : A) (b : B) (bs : List B) → IsOneOf b bs → IsOneOf x (f b) → IsOneOf x (flat_map f bs)
    in_flat x b [] h k = absurd h
    in_flat x b (c ∷ bs) (inl e) k = in_left x (f c) (flat_map f bs) (subst (λ z. IsOneOf x (f z)) e k)
    in_flat x b (c ∷ bs) (inr h) k = in_right x (f c) (flat_map f bs) (in_flat x b bs h k)

    pub all_flat : (P : A → Type 0) (bs : List B) → ((b : B) → IsOneOf b bs → AreAll P (f b)) → AreAll P (flat_map f bs)
    all_flat P [] h x k = absurd k
    all_flat P (b ∷ bs) h x k = all_joined P (f b) (flat_map f bs) (h b (inl refl)) (all_flat P bs (λ c i. h c (inr i))) x k

-- ---- tests

module _ {A : Type 0} (p : A → Bool) where
  -- a member that is found is in the list
  pub found_in : (xs : List A) (x : A) → find p xs ≡ Some x → IsOneOf x xs
  found_in [] x e = cc
  found_in (y ∷ ys) x e = first (p y) (find p ys) (found_in ys x) e
    where
      first : (b : Bool) (o : Option A) → (o ≡ Some x → IsOneOf x ys) → cond b (Some y) o ≡ Some x → IsOneOf x (y ∷ ys)
      first true o f e = inl (sym (some_is e))
      first false o f e = inr (f e)

  pub all_pass : (xs : List A) → list_all p xs ≡ true → AreAll (λ x. p x ≡ true) xs
  all_pass [] h x k = absurd k
  all_pass (y ∷ ys) h x (inl e) = subst (λ z. p z ≡ true) (sym e) (and_left (p y) (list_all p ys) h)
  all_pass (y ∷ ys) h x (inr k) = all_pass ys (and_right (p y) (list_all p ys) h) x k

  pub none_passes : (xs : List A) → list_any p xs ≡ false → AreAll (λ x. p x ≡ false) xs
  none_passes [] h x k = absurd k
  none_passes (y ∷ ys) h x (inl e) = subst (λ z. p z ≡ false) (sym e) (neither_left (p y) (list_any p ys) h)
  none_passes (y ∷ ys) h x (inr k) = none_passes ys (neither_right (p y) (list_any p ys) h) x k

-- a name that passes the test of being among names is a member of them
pub name_in : (p : Path) (ps : List Path) → is_among ps p ≡ true → IsOneOf p ps
name_in p [] h = cc
name_in p (q ∷ ps) h =
    or_cases (path_eq p q) (is_among ps p) (IsOneOf p (q ∷ ps)) (λ e. inl (path_same.to p q e))
    (λ e. inr (name_in p ps e)) h
