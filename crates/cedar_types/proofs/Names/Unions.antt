-- Ascending names, and their unions.
use Rattle.std.proofs.Common.{◌≡◌, ◌⊎◌, inl, inr, refl, sym, ap, ◌∙◌, subst, Bool, true, false, ◌||◌, List, [], ◌∷◌, true≢false}
use Rattle.std.specs.declared.cmp.Ordering.{Ordering}
use Rattle.std.specs.declared.cmp.Ordering.TheVariants.{Less, Equal, Greater}
use Rattle.std.specs.Ordering.{is_lt, is_eq, match_ordering}
use Rattle.std.specs.Cmp.{IsTotalOrder, on_total, then_total}
use Rattle.std.specs.Cmp.Lexicographic.{nat_list_cmp_total, lists_total}
use Rattle.std.specs.List.{list_all, list_any}
use Rattle.cedar_types.specs.Names.{Path, path_cmp, path_eq}
use Rattle.cedar_types.specs.Names.Ascending.{paths_ascending}
use Rattle.cedar_types.specs.Types.Bounds.{insert_path, union}
use Rattle.cedar_types.proofs.Names.Paths.{path_ties}
use Rattle.cedar_types.proofs.Entries.Ascending.{turned, not_below_itself, not_both_ways}
use Rattle.cedar_types.proofs.Comparisons.SameTypes.{and_left, and_right, and_both, path_to, path_itself}

pub or_cases : (a b : Bool) → (a || b) ≡ true → (a ≡ true) ⊎ (b ≡ true)
or_cases true b h = inl refl
or_cases false b h = inr h

pub or_drop : (a b c d : Bool) → a ≡ false → b ≡ false → (a || c) ≡ (b || d) → c ≡ d
or_drop true b c d e f h = absurd (true≢false e)
or_drop false true c d e f h = absurd (true≢false f)
or_drop false false c d e f h = h

pub not_true : (b : Bool) → (b ≡ true → ⊥) → b ≡ false
not_true true f = absurd (f refl)
not_true false f = refl

pub less_is : (o : Ordering) → is_lt o ≡ true → o ≡ Less
less_is Less h = refl
less_is Equal h = absurd (true≢false (sym h))
less_is Greater h = absurd (true≢false (sym h))

pub path_total : IsTotalOrder path_cmp
path_total = then_total (on_total (λ p. p.path) (lists_total nat_list_cmp_total)) (on_total (λ p. p.basename) nat_list_cmp_total)

pub tied_paths : (p q : Path) → path_cmp p q ≡ Equal → p ≡ q
tied_paths p q e = path_to p q (path_ties p q ∙ ap is_eq e)

-- Membership of a name in a list
abbrev pub has : Path → List Path → Bool
has q ps = list_any (path_eq q) ps

-- All names in the list are above p
abbrev pub Above : Path → List Path → Type 0
Above p qs = (q : Path) → has q qs ≡ true → path_cmp p q ≡ Less

pub has_first : (p : Path) (ps : List Path) → has p (p ∷ ps) ≡ true
has_first p ps = ap (λ b. b || has p ps) (path_itself p)

pub above_from : (p : Path) (qs : List Path) → list_all (λ q. is_lt (path_cmp p q)) qs ≡ true → Above p qs
above_from p [] h q e = absurd (true≢false (sym e))
above_from p (x ∷ xs) h q e =
    elim (or_cases (path_eq q x) (has q xs) e) [
      | inl a ↦ subst (λ r. path_cmp p r ≡ Less) (sym (path_to q x a))
          (less_is (path_cmp p x) (and_left (is_lt (path_cmp p x)) (list_all (λ q. is_lt (path_cmp p q)) xs) h))
      | inr b ↦ above_from p xs (and_right (is_lt (path_cmp p x)) (list_all (λ q. is_lt (path_cmp p q)) xs) h) q b
    ]

pub above_to : (p : Path) (qs : List Path) → Above p qs → list_all (λ q. is_lt (path_cmp p q)) qs ≡ true
above_to p [] h = refl
above_to p (x ∷ xs) h =
    and_both (is_lt (path_cmp p x)) (list_all (λ q. is_lt (path_cmp p q)) xs) (ap is_lt (h x (has_first x xs)))
    (above_to p xs (λ q e. h q (later (path_eq q x) (has q xs) e)))
  where
    later : (a b : Bool) → b ≡ true → (a || b) ≡ true
    later true b e = refl
    later false b e = e

pub first_above : (p : Path) (ps : List Path) → paths_ascending (p ∷ ps) ≡ true → Above p ps
first_above p ps h = above_from p ps (and_left (list_all (λ q. is_lt (path_cmp p q)) ps) (paths_ascending ps) h)

pub rest_ascends : (p : Path) (ps : List Path) → paths_ascending (p ∷ ps) ≡ true → paths_ascending ps ≡ true
rest_ascends p ps h = and_right (list_all (λ q. is_lt (path_cmp p q)) ps) (paths_ascending ps) h

absent : (p : Path) (ps : List Path) → Above p ps → has p ps ≡ false
absent p ps h = not_true (has p ps) (λ e. not_below_itself path_total p (h p e))

-- Ascending lists of names with equal members are equal
pub same_members : (ps qs : List Path) → paths_ascending ps ≡ true → paths_ascending qs ≡ true
    → ((r : Path) → has r ps ≡ has r qs) → ps ≡ qs
same_members [] [] a b h = refl
same_members [] (q ∷ qs) a b h = absurd (true≢false (sym (h q ∙ has_first q qs)))
same_members (p ∷ ps) [] a b h = absurd (true≢false (sym (has_first p ps) ∙ h p))
same_members (p ∷ ps) (q ∷ qs) a b h = by (same_members ps qs (rest_ascends p ps a) (rest_ascends q qs b)) (path_cmp p q) refl
  where
    first_of_q : path_cmp p q ≡ Less → ⊥
    first_of_q e =
        elim (or_cases (path_eq p q) (has p qs) (sym (h p) ∙ has_first p ps)) [
          | inl f ↦ not_below_itself path_total p (subst (λ r. path_cmp p r ≡ Less) (sym (path_to p q f)) e)
          | inr f ↦ not_both_ways path_total p q e (first_above q qs b p f)
        ]

    first_of_p : path_cmp q p ≡ Less → ⊥
    first_of_p e =
        elim (or_cases (path_eq q p) (has q ps) (h q ∙ has_first q qs)) [
          | inl f ↦ not_below_itself path_total q (subst (λ r. path_cmp q r ≡ Less) (sym (path_to q p f)) e)
          | inr f ↦ not_both_ways path_total q p e (first_above p ps a q f)
        ]

    rest : p ≡ q → (r : Path) (t : Bool) → path_eq r p ≡ t → has r ps ≡ has r qs
    rest e r true f =
        let at_p = ap (λ x. has x ps) (path_to r p f) ∙ absent p ps (first_above p ps a) in
        let at_q = ap (λ x. has x qs) (path_to r p f ∙ e) ∙ absent q qs (first_above q qs b) in
        at_p ∙ sym at_q
    rest e r false f = or_drop (path_eq r p) (path_eq r q) (has r ps) (has r qs) f (ap (path_eq r) (sym e) ∙ f) (h r)

    by : (((r : Path) → has r ps ≡ has r qs) → ps ≡ qs) → (o : Ordering) → path_cmp p q ≡ o → p ∷ ps ≡ q ∷ qs
    by others Less e = absurd (first_of_q e)
    by others Equal e = λ i. tied_paths p q e i ∷ others (λ r. rest (tied_paths p q e) r (path_eq r p) refl) i
    by others Greater e = absurd (first_of_p (turned path_total p q e))

-- ---- a name put in
or_twice : (a b : Bool) → (a || b) ≡ (a || (a || b))
or_twice true b = refl
or_twice false b = refl

or_turn : (a b c : Bool) → (a || (b || c)) ≡ (b || (a || c))
or_turn true true c = refl
or_turn true false c = refl
or_turn false b c = refl

pub has_inserted : (r p : Path) (qs : List Path) → has r (insert_path p qs) ≡ (path_eq r p || has r qs)
has_inserted r p [] = refl
has_inserted r p (q ∷ qs) = by (has_inserted r p qs) (path_cmp p q) refl
  where
    by : has r (insert_path p qs) ≡ (path_eq r p || has r qs) → (o : Ordering) → path_cmp p q ≡ o
        → has r (match_ordering o (p ∷ q ∷ qs) (q ∷ qs) (q ∷ insert_path p qs)) ≡ (path_eq r p || has r (q ∷ qs))
    by others Less e = refl
    by others Equal e = or_twice (path_eq r q) (has r qs) ∙ ap (λ x. path_eq r x || (path_eq r q || has r qs)) (sym (tied_paths p q e))
    by others Greater e = ap (λ b. path_eq r q || b) others ∙ or_turn (path_eq r q) (path_eq r p) (has r qs)

pub inserted_ascends : (p : Path) (qs : List Path) → paths_ascending qs ≡ true → paths_ascending (insert_path p qs) ≡ true
inserted_ascends p [] a = refl
inserted_ascends p (q ∷ qs) a = by (inserted_ascends p qs (rest_ascends q qs a)) (path_cmp p q) refl
  where
    first : path_cmp p q ≡ Less → Above p (q ∷ qs)
    first e r f =
        elim (or_cases (path_eq r q) (has r qs) f) [
          | inl g ↦ subst (λ x. path_cmp p x ≡ Less) (sym (path_to r q g)) e
          | inr g ↦ path_total.trans p q r e (first_above q qs a r g)
        ]

    still : path_cmp p q ≡ Greater → Above q (insert_path p qs)
    still e r f =
        elim (or_cases (path_eq r p) (has r qs) (sym (has_inserted r p qs) ∙ f)) [
          | inl g ↦ subst (λ x. path_cmp q x ≡ Less) (sym (path_to r p g)) (turned path_total p q e)
          | inr g ↦ first_above q qs a r g
        ]

    by : paths_ascending (insert_path p qs) ≡ true → (o : Ordering) → path_cmp p q ≡ o
        → paths_ascending (match_ordering o (p ∷ q ∷ qs) (q ∷ qs) (q ∷ insert_path p qs)) ≡ true
    by others Less e = and_both (list_all (λ x. is_lt (path_cmp p x)) (q ∷ qs)) (paths_ascending (q ∷ qs)) (above_to p (q ∷ qs) (first e)) a
    by others Equal e = a
    by others Greater e =
        and_both (list_all (λ x. is_lt (path_cmp q x)) (insert_path p qs)) (paths_ascending (insert_path p qs))
        (above_to q (insert_path p qs) (still e)) others

-- ---- unions
or_move : (a b c : Bool) → ((a || b) || c) ≡ (b || (a || c))
or_move true true c = refl
or_move true false c = refl
or_move false b c = refl

pub has_union : (r : Path) (ps qs : List Path) → has r (union ps qs) ≡ (has r ps || has r qs)
has_union r ps [] = none (has r ps)
  where
    none : (a : Bool) → a ≡ (a || false)
    none true = refl
    none false = refl
has_union r ps (q ∷ qs) =
    has_union r (insert_path q ps) qs
    ∙ ap (λ b. b || has r qs) (has_inserted r q ps)
    ∙ or_move (path_eq r q) (has r ps) (has r qs)

pub union_ascends : (ps qs : List Path) → paths_ascending ps ≡ true → paths_ascending (union ps qs) ≡ true
union_ascends ps [] a = a
union_ascends ps (q ∷ qs) a = union_ascends (insert_path q ps) qs (inserted_ascends q ps a)

or_turned : (a b : Bool) → (a || b) ≡ (b || a)
or_turned true true = refl
or_turned true false = refl
or_turned false true = refl
or_turned false false = refl

pub union_symmetric : (ps qs : List Path) → paths_ascending ps ≡ true → paths_ascending qs ≡ true → union ps qs ≡ union qs ps
union_symmetric ps qs a b =
    same_members (union ps qs) (union qs ps) (union_ascends ps qs a) (union_ascends qs ps b)
    (λ r. has_union r ps qs ∙ or_turned (has r ps) (has r qs) ∙ sym (has_union r qs ps))

pub union_absorbs : (ps qs : List Path) → paths_ascending ps ≡ true → union ps (union ps qs) ≡ union ps qs
union_absorbs ps qs a = same_members (union ps (union ps qs)) (union ps qs) (union_ascends ps (union ps qs) a) (union_ascends ps qs a)
    (λ r. has_union r ps (union ps qs) ∙ ap (λ b. has r ps || b) (has_union r ps qs)
    ∙ sym (or_twice (has r ps) (has r qs)) ∙ sym (has_union r ps qs))

-- The union of ps with qs is qs if qs has all of ps
pub union_of_part : (ps qs : List Path) → paths_ascending ps ≡ true → paths_ascending qs ≡ true
    → ((r : Path) → (has r ps || has r qs) ≡ has r qs) → union ps qs ≡ qs
union_of_part ps qs a b h = same_members (union ps qs) qs (union_ascends ps qs a) b (λ r. has_union r ps qs ∙ h r)

pub part_of_union : (ps qs : List Path) → union ps qs ≡ qs → (r : Path) → (has r ps || has r qs) ≡ has r qs
part_of_union ps qs e r = sym (has_union r ps qs) ∙ ap (has r) e

or_chain : (a b c : Bool) → (a || b) ≡ b → (b || c) ≡ c → (a || c) ≡ c
or_chain false b c h g = refl
or_chain true true c h g = g
or_chain true false c h g = absurd (true≢false h)

pub union_chain : (ps qs rs : List Path) → paths_ascending ps ≡ true → paths_ascending rs ≡ true → union ps qs ≡ qs
    → union qs rs ≡ rs → union ps rs ≡ rs
union_chain ps qs rs a b h g =
    union_of_part ps rs a b (λ r. or_chain (has r ps) (has r qs) (has r rs) (part_of_union ps qs h r)
    (part_of_union qs rs g r))

pub union_not_empty : (p : Path) (ps qs : List Path) → has p ps ≡ true → union ps qs ≡ [] → ⊥
union_not_empty p ps qs h e = true≢false (sym (has_union p ps qs ∙ ap (λ b. b || has p qs) h) ∙ ap (has p) e)
