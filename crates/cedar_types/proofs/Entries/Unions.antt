-- A walk over two lists that collects the entries that are in either.
use Rattle.std.proofs.Common.{◌≡◌, suc, ◌+◌, ◌<◌, Bool, ◌||◌, List, [], ◌∷◌, ◌++◌, length, refl, sym, ap, subst, ◌∙◌, arith}
use Rattle.std.proofs.Common.{Option, Some}
use Rattle.std.specs.Prelude.{MatchOption}
use Rattle.std.specs.Option.{option_to_list}
use Rattle.std.specs.List.{list_any}
use Rattle.std.specs.Cmp.{IsTotalOrder}
use Rattle.std.specs.declared.cmp.Ordering.{Ordering}
use Rattle.std.specs.declared.cmp.Ordering.TheVariants.{Equal}
use Rattle.cedar_types.specs.Capability.Entries.{IsPoint, IsFirst, left_first, right_first, both_first, IsBelowHead, HasEither}
use Rattle.cedar_types.proofs.Entries.Basics.{or_false, any_push, from_left, from_right, from_both}
use Rattle.cedar_types.proofs.Entries.Ascending.{SortedBy, UnderBy, below_alike, sorted_head, sorted_tail, sorted_none, below_head}
use Rattle.cedar_types.proofs.Entries.Ascending.{sorted_push, under_head, under_push, under_tail}

module _ {K : Type 0} (cmp : K → K → Ordering) where
  -- A walk over both of ls0 and rs0 has collected zs, and ls and rs remain
  pub record Merging (ls0 rs0 zs ls rs : List K) : Type 0 where
    pub sorted : SortedBy cmp zs
    pub left : SortedBy cmp ls
    pub right : SortedBy cmp rs
    pub under_left : UnderBy cmp zs ls
    pub under_right : UnderBy cmp zs rs
    pub has : (p : K → Bool) → IsPoint cmp p → (list_any p zs || (list_any p ls || list_any p rs)) ≡ (list_any p ls0 || list_any p rs0)

  -- The collected entries and the remaining entries make up both lists
  abbrev pub Pouring : (ls0 rs0 zs rs : List K) → Type 0
  Pouring ls0 rs0 zs rs = (p : K → Bool) → IsPoint cmp p → (list_any p zs || list_any p rs) ≡ (list_any p ls0 || list_any p rs0)

  -- A step leaves fewer entries
  pub first_smaller : (ls rs : List K) (x : K) (xs ys : List K) → IsFirst cmp ls rs x xs ys → length xs + length ys < length ls + length rs
  first_smaller ls rs x xs ys (left_first a b h) =
      let p : length ls ≡ suc (length xs) = ap length a in
      let q : length ys ≡ length rs = ap length b in
      omega arith
  first_smaller ls rs x xs ys (right_first a b h) =
      let p : length rs ≡ suc (length ys) = ap length a in
      let q : length xs ≡ length ls = ap length b in
      omega arith
  first_smaller ls rs x xs ys (both_first y a b t) =
      let p : length ls ≡ suc (length xs) = ap length a in
      let q : length rs ≡ suc (length ys) = ap length b in
      omega arith

  -- A step takes the first entries of both lists, because they tie
  pub both_taken : (ls rs xs ys : List K) (r q : Option K) (x y : K) → r ≡ Some x → q ≡ Some y
      → ls ≡ option_to_list r ++ xs → rs ≡ option_to_list q ++ ys → cmp x y ≡ Equal
      → MatchOption r ((ls ≡ []) × (rs ≡ [])) (λ z. IsFirst cmp ls rs z xs ys)
  both_taken ls rs xs ys r q x y a b l m t =
      subst (λ o. MatchOption o ((ls ≡ []) × (rs ≡ [])) (λ z. IsFirst cmp ls rs z xs ys)) (sym a)
      (both_first y (l ∙ ap (λ o. option_to_list o ++ xs) a) (m ∙ ap (λ o. option_to_list o ++ ys) b) t)

module _ {K : Type 0} {cmp : K → K → Ordering} (o : IsTotalOrder cmp) where
  pub merging_begins : (ls rs : List K) → SortedBy cmp ls → SortedBy cmp rs → Merging cmp ls rs [] ls rs
  merging_begins ls rs l r = record { sorted = sorted_none o; left = l; right = r; under_left = tt; under_right = tt; has = λ p q. refl }

  pub merging_ends : (ls rs zs : List K) → Merging cmp ls rs zs [] [] → HasEither cmp ls rs zs
  merging_ends ls rs zs m = λ p q. sym (or_false (list_any p zs)) ∙ m.has p q

  module _ (ls0 rs0 zs : List K) (c x : K) (e : cmp c x ≡ Equal) where
    merging_left : (xs rs : List K) → IsBelowHead cmp x rs → Merging cmp ls0 rs0 zs (x ∷ xs) rs → Merging cmp ls0 rs0 (zs ++ c ∷ []) xs rs
    merging_left xs rs h m = record {
      sorted = sorted_push o zs c m.sorted (under_head o zs c x xs e m.under_left);
      left = sorted_tail o x xs m.left;
      right = m.right;
      under_left = under_push o zs c xs (under_tail o zs x xs m.under_left) (below_alike o c x xs e (sorted_head o x xs m.left));
      under_right = under_push o zs c rs m.under_right (below_alike o c x rs e (below_head o x rs h m.right));
      has = λ p q.
          ap (λ b. b || (list_any p xs || list_any p rs)) (any_push p zs c ∙ ap (λ b. list_any p zs || b) (q.alike c x e))
          ∙ from_left (list_any p zs) (p x) (list_any p xs) (list_any p rs) ∙ m.has p q;
    }

    merging_right : (ls ys : List K) → IsBelowHead cmp x ls → Merging cmp ls0 rs0 zs ls (x ∷ ys) → Merging cmp ls0 rs0 (zs ++ c ∷ []) ls ys
    merging_right ls ys h m = record {
      sorted = sorted_push o zs c m.sorted (under_head o zs c x ys e m.under_right);
      left = m.left;
      right = sorted_tail o x ys m.right;
      under_left = under_push o zs c ls m.under_left (below_alike o c x ls e (below_head o x ls h m.left));
      under_right = under_push o zs c ys (under_tail o zs x ys m.under_right) (below_alike o c x ys e (sorted_head o x ys m.right));
      has = λ p q.
          ap (λ b. b || (list_any p ls || list_any p ys)) (any_push p zs c ∙ ap (λ b. list_any p zs || b) (q.alike c x e))
          ∙ from_right (list_any p zs) (p x) (list_any p ls) (list_any p ys) ∙ m.has p q;
    }

    merging_both : (xs : List K) (y : K) (ys : List K) → cmp x y ≡ Equal → Merging cmp ls0 rs0 zs (x ∷ xs) (y ∷ ys)
        → Merging cmp ls0 rs0 (zs ++ c ∷ []) xs ys
    merging_both xs y ys t m = record {
      sorted = sorted_push o zs c m.sorted (under_head o zs c x xs e m.under_left);
      left = sorted_tail o x xs m.left;
      right = sorted_tail o y ys m.right;
      under_left = under_push o zs c xs (under_tail o zs x xs m.under_left) (below_alike o c x xs e (sorted_head o x xs m.left));
      under_right =
          under_push o zs c ys (under_tail o zs y ys m.under_right)
          (below_alike o c x ys e (below_alike o x y ys t (sorted_head o y ys m.right)));
      has = λ p q.
          ap (λ b. b || (list_any p xs || list_any p ys)) (any_push p zs c ∙ ap (λ b. list_any p zs || b) (q.alike c x e))
          ∙ from_both (list_any p zs) (p x) (list_any p xs) (list_any p ys)
          ∙ ap (λ b. list_any p zs || ((p x || list_any p xs) || (b || list_any p ys))) (q.alike x y t) ∙ m.has p q;
    }

    pub merging_step : (ls rs xs ys : List K) → IsFirst cmp ls rs x xs ys → Merging cmp ls0 rs0 zs ls rs
        → Merging cmp ls0 rs0 (zs ++ c ∷ []) xs ys
    merging_step ls rs xs ys (left_first a b h) m =
        subst (Merging cmp ls0 rs0 (zs ++ c ∷ []) xs) (sym b) (merging_left xs rs h (subst (λ l. Merging cmp ls0 rs0 zs l rs) a m))
    merging_step ls rs xs ys (right_first a b h) m =
        subst (λ l. Merging cmp ls0 rs0 (zs ++ c ∷ []) l ys) (sym b) (merging_right ls ys h (subst (Merging cmp ls0 rs0 zs ls) a m))
    merging_step ls rs xs ys (both_first y a b t) m =
        merging_both xs y ys t (subst (λ l. Merging cmp ls0 rs0 zs l (y ∷ ys)) a (subst (Merging cmp ls0 rs0 zs ls) b m))
