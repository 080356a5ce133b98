-- A walk over two lists that finds the entries that are in both.
use Rattle.std.proofs.Common.{◌≡◌, Bool, true, false, ◌&&◌, ◌||◌, List, [], ◌∷◌, ◌++◌, refl, sym, ap, subst, ◌∙◌}
use Rattle.std.specs.List.{list_any}
use Rattle.std.specs.Cmp.{IsTotalOrder}
use Rattle.std.specs.declared.cmp.Ordering.{Ordering}
use Rattle.std.specs.declared.cmp.Ordering.TheVariants.{Less, Equal, Greater}
use Rattle.cedar_types.specs.Capability.Entries.{IsPoint, HasBoth}
use Rattle.cedar_types.proofs.Entries.Basics.{Equal≢Less, all_map, or_false, any_push, none_where, common_both, drop_left, drop_right}
use Rattle.cedar_types.proofs.Entries.Ascending.{SortedBy, BelowBy, UnderBy, turned, below_more, below_alike, sorted_head, sorted_tail}
use Rattle.cedar_types.proofs.Entries.Ascending.{sorted_none, sorted_push, under_head, under_push, under_tail}

module _ {K : Type 0} (cmp : K → K → Ordering) where
  -- A walk over both of ls0 and rs0 has found the common entries before ls and rs
  pub record Meeting (ls0 rs0 zs ls rs : List K) : Type 0 where
    pub sorted : SortedBy cmp zs
    pub left : SortedBy cmp ls
    pub right : SortedBy cmp rs
    pub under_left : UnderBy cmp zs ls
    pub has : (p : K → Bool) → IsPoint cmp p → (list_any p zs || (list_any p ls && list_any p rs)) ≡ (list_any p ls0 && list_any p rs0)

module _ {K : Type 0} {cmp : K → K → Ordering} (o : IsTotalOrder cmp) where
  pub meeting_begins : (ls rs : List K) → SortedBy cmp ls → SortedBy cmp rs → Meeting cmp ls rs [] ls rs
  meeting_begins ls rs l r = record { sorted = sorted_none o; left = l; right = r; under_left = tt; has = λ p q. refl }

  pub meeting_ends_left : (ls rs zs ys : List K) → Meeting cmp ls rs zs [] ys → HasBoth cmp ls rs zs
  meeting_ends_left ls rs zs ys m = λ p q. sym (or_false (list_any p zs)) ∙ m.has p q

  and_false : (b : Bool) → (b && false) ≡ false
  and_false true = refl
  and_false false = refl

  pub meeting_ends_right : (ls rs zs xs : List K) → Meeting cmp ls rs zs xs [] → HasBoth cmp ls rs zs
  meeting_ends_right ls rs zs xs m =
      λ p q. sym (or_false (list_any p zs)) ∙ ap (λ b. list_any p zs || b) (sym (and_false (list_any p xs)))
      ∙ m.has p q

  -- A point selects x alone, so it does not select y, which is above x
  differs : (p : K → Bool) → IsPoint cmp p → (x y : K) → p x ≡ true → cmp x y ≡ Less → (b : Bool) → p y ≡ b → b ≡ false
  differs p q x y h l true e = Equal≢Less (sym (q.alone x y h e) ∙ l)
  differs p q x y h l false e = refl

  none_above : (p : K → Bool) → IsPoint cmp p → (x : K) (ys : List K) → p x ≡ true → BelowBy cmp x ys → list_any p ys ≡ false
  none_above p q x ys h b = none_where p ys (all_map (λ y l. differs p q x y h l (p y) refl) ys b)

  module _ (ls0 rs0 zs : List K) (x : K) (xs : List K) (y : K) (ys : List K) (m : Meeting cmp ls0 rs0 zs (x ∷ xs) (y ∷ ys)) where
    pub meeting_less : cmp x y ≡ Less → Meeting cmp ls0 rs0 zs xs (y ∷ ys)
    meeting_less t = record {
      sorted = m.sorted;
      left = sorted_tail o x xs m.left;
      right = m.right;
      under_left = under_tail o zs x xs m.under_left;
      has =
          λ p q. drop_left (list_any p zs) (p x) (list_any p xs) (list_any p (y ∷ ys))
          (λ h. none_above p q x (y ∷ ys) h (t, below_more o x y ys t (sorted_head o y ys m.right))) ∙ m.has p q;
    }

    pub meeting_greater : cmp x y ≡ Greater → Meeting cmp ls0 rs0 zs (x ∷ xs) ys
    meeting_greater t = record {
      sorted = m.sorted;
      left = m.left;
      right = sorted_tail o y ys m.right;
      under_left = m.under_left;
      has =
          λ p q. drop_right (list_any p zs) (p y) (list_any p (x ∷ xs)) (list_any p ys)
          (λ h. none_above p q y (x ∷ xs) h
          (turned o x y t, below_more o y x xs (turned o x y t) (sorted_head o x xs m.left))) ∙ m.has p q;
    }

    pub meeting_equal : (c : K) → cmp c x ≡ Equal → cmp x y ≡ Equal → Meeting cmp ls0 rs0 (zs ++ c ∷ []) xs ys
    meeting_equal c e t = record {
      sorted = sorted_push o zs c m.sorted (under_head o zs c x xs e m.under_left);
      left = sorted_tail o x xs m.left;
      right = sorted_tail o y ys m.right;
      under_left = under_push o zs c xs (under_tail o zs x xs m.under_left) (below_alike o c x xs e (sorted_head o x xs m.left));
      has = λ p q.
          ap (λ b. b || (list_any p xs && list_any p ys)) (any_push p zs c ∙ ap (λ b. list_any p zs || b) (q.alike c x e))
          ∙ common_both (list_any p zs) (p x) (list_any p xs) (list_any p ys)
          ∙ ap (λ b. list_any p zs || ((p x || list_any p xs) && (b || list_any p ys))) (q.alike x y t) ∙ m.has p q;
    }

  module _ (ls0 rs0 zs ls rs : List K) (x : K) (xs : List K) (y : K) (ys : List K) (a : ls ≡ x ∷ xs)
      (b : rs ≡ y ∷ ys) (m : Meeting cmp ls0 rs0 zs ls rs) where
    opened : Meeting cmp ls0 rs0 zs (x ∷ xs) (y ∷ ys)
    opened = subst (λ l. Meeting cmp ls0 rs0 zs l (y ∷ ys)) a (subst (Meeting cmp ls0 rs0 zs ls) b m)

    pub less_step : cmp x y ≡ Less → Meeting cmp ls0 rs0 zs xs rs
    less_step t = subst (Meeting cmp ls0 rs0 zs xs) (sym b) (meeting_less ls0 rs0 zs x xs y ys opened t)

    pub greater_step : cmp x y ≡ Greater → Meeting cmp ls0 rs0 zs ls ys
    greater_step t = subst (λ l. Meeting cmp ls0 rs0 zs l ys) (sym a) (meeting_greater ls0 rs0 zs x xs y ys opened t)

    pub equal_step : (c : K) → cmp c x ≡ Equal → cmp x y ≡ Equal → Meeting cmp ls0 rs0 (zs ++ c ∷ []) xs ys
    equal_step = meeting_equal ls0 rs0 zs x xs y ys opened
