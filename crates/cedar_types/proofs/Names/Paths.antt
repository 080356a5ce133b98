-- Names: their order and their equality.
use Rattle.std.proofs.Common.{◌≡◌, ◌⊎◌, inl, inr, refl, sym, ap, ◌∙◌, Bool, true, ℕ, length, ◌&&◌, ◌||◌, List, [], ◌∷◌, map}
use Rattle.std.specs.declared.cmp.Ordering.{Ordering}
use Rattle.std.specs.declared.cmp.Ordering.TheVariants.{Less, Equal, Greater}
use Rattle.std.specs.Ordering.{ordering_then, is_eq, is_lt, match_ordering}
use Rattle.std.specs.Cmp.Lexicographic.{slice_cmp, pointwise, texts_ties, lists_ties}
use Rattle.std.specs.Cmp.Derive.Mapped.{pointwise-map, lex_map}
use Rattle.std.specs.BTreeSet.{BTreeSet, insert_key}
use Rattle.std.specs.List.{AllByRecursion, AllZip, list_all, list_any}
use Rattle.std.specs.List.Sorted.{IsStrictlySortedBy}
use Rattle.cedar_types.specs.declared.base.names.Name.{Name}
use Rattle.cedar_types.specs.declared.base.names.entities.EntityType.{EntityType}
use Rattle.cedar_types.specs.Names.{Path, text_of, path_of, type_of, placed_type, text_cmp, path_cmp, text_eq, path_eq}
use Rattle.cedar_types.specs.Names.Ascending.{has_members, types_ascend}
use Rattle.cedar_types.specs.Types.Bounds.{insert_path}

pub names_eq : (a b : Name)
    → (pointwise (λ x y. text_eq (text_of x) (text_of y)) a.path.items b.path.items
    && text_eq (text_of a.basename) (text_of b.basename)) ≡ path_eq (path_of a) (path_of b)
names_eq a b =
    ap (λ r. r && text_eq (text_of a.basename) (text_of b.basename))
    (sym (pointwise-map text_of text_eq a.path.items b.path.items))

pub names_cmp : (a b : Name)
    → ordering_then (slice_cmp (λ x y. text_cmp (text_of x) (text_of y)) a.path.items b.path.items)
    (text_cmp (text_of a.basename) (text_of b.basename)) ≡ path_cmp (path_of a) (path_of b)
names_cmp a b =
    ap (λ r. ordering_then r (text_cmp (text_of a.basename) (text_of b.basename)))
    (sym (lex_map text_of text_cmp a.path.items b.path.items))

-- Two ties together are a tie of the two orders, one after the other
pub tied_then : (o p : Ordering) → (is_eq o && is_eq p) ≡ is_eq (ordering_then o p)
tied_then Less p = refl
tied_then Equal p = refl
tied_then Greater p = refl

-- Names are equal exactly if their order ties them
pub path_ties : (p q : Path) → path_eq p q ≡ is_eq (path_cmp p q)
path_ties p q =
    ap (λ r. r && text_eq p.basename q.basename) (lists_ties text_cmp texts_ties p.path q.path)
    ∙ ap (λ r. is_eq (slice_cmp text_cmp p.path q.path) && r) (texts_ties p.basename q.basename)
    ∙ tied_then (slice_cmp text_cmp p.path q.path) (text_cmp p.basename q.basename)

-- A membership test under a comparison R of entity types is a membership test by name
pub contained : (R : EntityType → Ordering) (p : Path) → ((k : EntityType) → R k ≡ path_cmp p (type_of k))
    → (ks : List EntityType) → list_any (λ k. is_eq (R k)) ks ≡ list_any (path_eq p) (map type_of ks)
contained R p h [] = refl
contained R p h (k ∷ ks) = λ i. (ap is_eq (h k) ∙ sym (path_ties p (type_of k))) i || contained R p h ks i

-- The members of a set of entity types under the order R ascend
pub ascend : (R : EntityType → EntityType → Ordering)
    → ((a b : EntityType) → R a b ≡ path_cmp (type_of a) (type_of b)) → (ks : List EntityType)
    → IsStrictlySortedBy R ks → types_ascend ks ≡ true
unfolding IsStrictlySortedBy
ascend R h [] s = refl
ascend R h (k ∷ ks) s = (λ i. above ks s.0 i && ascend R h ks s.1 i)
  where
    above : (ls : List EntityType) → AllByRecursion (λ l. R k l ≡ Less) ls
        → list_all (λ q. is_lt (path_cmp (type_of k) q)) (map type_of ls) ≡ true
    above [] t = refl
    above (l ∷ ls) t = λ i. ap is_lt (sym (h k l) ∙ t.0) i && above ls t.1 i

pub has_one : {A : Type 0} (xs : List A) (n : ℕ) → n ≡ length xs → (n ≡ 0 → ⊥) → has_members xs ≡ true
has_one [] n e h = absurd (h e)
has_one (x ∷ xs) n e h = refl

map_match : {A B : Type 0} (f : A → B) (o : Ordering) (a b c : List A)
    → map f (match_ordering o a b c) ≡ match_ordering o (map f a) (map f b) (map f c)
map_match f Less a b c = refl
map_match f Equal a b c = refl
map_match f Greater a b c = refl

-- A type put into a set under the order R is its name put into the set's names
pub inserted : (R : EntityType → EntityType → Ordering)
    → ((a b : EntityType) → R a b ≡ path_cmp (type_of a) (type_of b)) → (ks : List EntityType) (k : EntityType)
    → map type_of (insert_key R ks k) ≡ insert_path (type_of k) (map type_of ks)
inserted R h [] k = refl
inserted R h (x ∷ xs) k =
    map_match type_of (R k x) (k ∷ x ∷ xs) (x ∷ xs) (x ∷ insert_key R xs k)
    ∙ ap (λ o. match_ordering o (type_of k ∷ type_of x ∷ map type_of xs) (type_of x ∷ map type_of xs)
    (type_of x ∷ map type_of (insert_key R xs k))) (h k x)
    ∙ ap (λ r. match_ordering (path_cmp (type_of k) (type_of x)) (type_of k ∷ type_of x ∷ map type_of xs)
    (type_of x ∷ map type_of xs) (type_of x ∷ r)) (inserted R h xs k)

-- Copies of entity types have the views of their originals: each copy keeps its name and place
pub clones_alike : {B : Type 0} (f : EntityType → B) (xs ys : List EntityType)
    → ((x y : EntityType) → placed_type y ≡ placed_type x → f y ≡ f x)
    → AllZip (λ x y. placed_type y ≡ placed_type x) xs ys → map f ys ≡ map f xs
clones_alike f [] [] g h = refl
clones_alike f [] (y ∷ ys) g h = absurd h
clones_alike f (x ∷ xs) [] g h = absurd h
clones_alike f (x ∷ xs) (y ∷ ys) g h = λ i. g x y h.0 i ∷ clones_alike f xs ys g h.1 i

-- An owned or copied set has the names of the original set
pub owned_types : (s t : BTreeSet EntityType) → (t ≡ s) ⊎ AllZip (λ x y. placed_type y ≡ placed_type x) s.keys t.keys
    → map type_of t.keys ≡ map type_of s.keys
owned_types s t (inl e) = ap (λ r. map type_of r.keys) e
owned_types s t (inr h) = clones_alike type_of s.keys t.keys (λ x y e. ap (λ p. p.name) e) h

pub any_mapped : {A B : Type 0} (f : A → B) (p : B → Bool) (xs : List A) → list_any (λ x. p (f x)) xs ≡ list_any p (map f xs)
any_mapped f p [] = refl
any_mapped f p (x ∷ xs) = ap (λ b. p (f x) || b) (any_mapped f p xs)
