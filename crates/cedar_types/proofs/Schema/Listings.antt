-- Lists of names and ids without repeats.
use Rattle.std.proofs.Common.{◌≡◌, refl, sym, ap, ◌∙◌, Bool, true, false, cond, ◌||◌, not, ℕ, ◌<◌, List, [], ◌∷◌, ◌++◌, map, length, get_or}
use Rattle.std.proofs.Common.{Some, None}
use Rattle.std.specs.declared.cmp.Ordering.{Ordering}
use Rattle.std.specs.declared.cmp.Ordering.TheVariants.{Less, Equal, Greater}
use Rattle.std.specs.Ordering.{is_eq, match_ordering}
use Rattle.std.specs.List.{list_any, list_all, find, filter, flat_map, AllByRecursion}
use Rattle.std.specs.List.Sorted.{IsStrictlySortedBy}
use Rattle.std.specs.BTreeSet.{insert_key}
use Rattle.std.proofs.lemmas.List.Folds.{list_any-append, list_all-map, list_all_at}
use Rattle.std.proofs.lemmas.Grind.{flat_map-append}
pub use Rattle.cedar_types.proofs.Tests.{or_left, or_right}
use Rattle.cedar_types.specs.Names.{Path, Uid, path_eq, uid_eq}
use Rattle.cedar_types.specs.Schemas.{has_repeat, is_among, uid_is_among, DeclaredAction, descendants_of_action}
use Rattle.cedar_types.specs.Schemas.Listings.{ListsTypes, actions_within}
use Rattle.cedar_types.proofs.Names.Ids.{path_decides}

-- ---- a name and others

-- The names other than p
abbrev pub others : Path → List Path → List Path
others p qs = filter (λ q. not (path_eq p q)) qs

under : (a b x y : Bool) → (a || x) ≡ (a || y) → (a || (b || x)) ≡ (a || (b || y))
under true b x y h = refl
under false true x y h = refl
under false false x y h = h

absorbed : (a r : Bool) → (a || r) ≡ (a || (a || r))
absorbed true r = refl
absorbed false r = refl

members_but : (p q : Path) (ds : List Path) → (path_eq q p || is_among (others p ds) q) ≡ (path_eq q p || is_among ds q)
members_but p q [] = refl
members_but p q (d ∷ ds) = along (path_eq p d) refl (members_but p q ds)
  where
    along : (b : Bool) → b ≡ path_eq p d → (path_eq q p || is_among (others p ds) q)
        ≡ (path_eq q p || is_among ds q)
        → (path_eq q p || is_among (cond (not b) (d ∷ others p ds) (others p ds)) q)
        ≡ (path_eq q p || (path_eq q d || is_among ds q))
    along true e h =
        h ∙ absorbed (path_eq q p) (is_among ds q) ∙ ap (λ r. path_eq q p || (path_eq q r || is_among ds q))
        ((path_decides p d).0 (sym e))
    along false e h = under (path_eq q p) (path_eq q d) (is_among (others p ds) q) (is_among ds q) h

not_itself : (p : Path) (ds : List Path) → list_any (path_eq p) (others p ds) ≡ false
not_itself p [] = refl
not_itself p (d ∷ ds) = along (path_eq p d) refl (not_itself p ds)
  where
    along : (b : Bool) → b ≡ path_eq p d → list_any (path_eq p) (others p ds) ≡ false
        → list_any (path_eq p) (cond (not b) (d ∷ others p ds) (others p ds)) ≡ false
    along true e h = h
    along false e h = ap (λ b. b || list_any (path_eq p) (others p ds)) (sym e) ∙ h

none_kept : {X : Type 0} (p r : X → Bool) (xs : List X) → list_any p xs ≡ false → list_any p (filter r xs) ≡ false
none_kept p r [] h = refl
none_kept p r (x ∷ xs) h = along (r x) (none_kept p r xs (or_right (p x) (list_any p xs) h))
  where
    along : (b : Bool) → list_any p (filter r xs) ≡ false → list_any p (cond b (x ∷ filter r xs) (filter r xs)) ≡ false
    along true k = ap (λ b. b || list_any p (filter r xs)) (or_left (p x) (list_any p xs) h) ∙ k
    along false k = k

apart_kept : {X : Type 0} (same : X → X → Bool) (r : X → Bool) (xs : List X) → has_repeat same xs ≡ false
    → has_repeat same (filter r xs) ≡ false
apart_kept same r [] h = refl
apart_kept same r (x ∷ xs) h = along (r x) (apart_kept same r xs (or_right (list_any (same x) xs) (has_repeat same xs) h))
  where
    along : (b : Bool) → has_repeat same (filter r xs) ≡ false → has_repeat same (cond b (x ∷ filter r xs) (filter r xs)) ≡ false
    along true k =
        ap (λ b. b || has_repeat same (filter r xs))
        (none_kept (same x) r xs (or_left (list_any (same x) xs) (has_repeat same xs) h)) ∙ k
    along false k = k

-- A name and the other names of a set list the name and the set
pub lists_within : (p : Path) (ds : List Path) → has_repeat path_eq ds ≡ false → ListsTypes (p ∷ ds) (p ∷ others p ds)
lists_within p ds h = record {
  members = λ q. members_but p q ds;
  apart = ap (λ b. b || has_repeat path_eq (others p ds)) (not_itself p ds) ∙ apart_kept path_eq (λ q. not (path_eq p q)) ds h;
}

-- ---- sets

-- Ascending keys have no repeats
pub apart_sorted : {K B : Type 0} (R : K → K → Ordering) (f : K → B) (same : B → B → Bool)
    → ((a b : K) → R a b ≡ Less → same (f a) (f b) ≡ false) → (ks : List K) → IsStrictlySortedBy R ks
    → has_repeat same (map f ks) ≡ false
unfolding IsStrictlySortedBy
apart_sorted R f same h [] s = refl
apart_sorted {K = K} R f same h (k ∷ ks) s = ap (λ b. b || has_repeat same (map f ks)) (above ks s.0) ∙ apart_sorted R f same h ks s.1
  where
    above : (ls : List K) → AllByRecursion (λ l. R k l ≡ Less) ls → list_any (same (f k)) (map f ls) ≡ false
    above [] t = refl
    above (l ∷ ls) t = ap (λ b. b || list_any (same (f k)) (map f ls)) (h k l t.0) ∙ above ls t.1

-- An ordering that is Less is not Equal
pub less_apart : (o : Ordering) (b : Bool) → o ≡ Less → b ≡ is_eq o → b ≡ false
less_apart o b h e = e ∙ ap is_eq h

-- A set with one more key has its old members and that key
pub inserted : {K B : Type 0} (cmp : K → K → Ordering) (f : K → B) (same : B → B → Bool)
    → ((a b : K) → cmp a b ≡ Equal → f a ≡ f b) → (k : K) (q : B) (ks : List K)
    → list_any (same q) (map f (insert_key cmp ks k)) ≡ (same q (f k) || list_any (same q) (map f ks))
inserted cmp f same h k q [] = refl
inserted cmp f same h k q (x ∷ xs) = along (cmp k x) refl (inserted cmp f same h k q xs)
  where
    swapped : (a b r : Bool) → (a || (b || r)) ≡ (b || (a || r))
    swapped true true r = refl
    swapped true false r = refl
    swapped false true r = refl
    swapped false false r = refl

    along : (o : Ordering) → o ≡ cmp k x → list_any (same q) (map f (insert_key cmp xs k))
        ≡ (same q (f k) || list_any (same q) (map f xs))
        → list_any (same q) (map f (match_ordering o (k ∷ x ∷ xs) (x ∷ xs) (x ∷ insert_key cmp xs k)))
        ≡ (same q (f k) || (same q (f x) || list_any (same q) (map f xs)))
    along Less e i = refl
    along Equal e i =
        absorbed (same q (f x)) (list_any (same q) (map f xs))
        ∙ ap (λ y. same q y || (same q (f x) || list_any (same q) (map f xs))) (sym (h k x (sym e)))
    along Greater e i = ap (λ b. same q (f x) || b) i ∙ swapped (same q (f x)) (same q (f k)) (list_any (same q) (map f xs))

-- ---- actions and their descendants

-- A set of actions that also takes an action and its descendants
pub next_within : (acts : List DeclaredAction) (us : List Uid) (x : Uid) (ds : List Uid)
    → descendants_of_action acts x ≡ ds → (u : Uid) (old one all : Bool)
    → old ≡ uid_is_among (actions_within acts us) u → one ≡ (uid_eq u x || old) → all ≡ (one || uid_is_among ds u)
    → all ≡ uid_is_among (actions_within acts (us ++ x ∷ [])) u
next_within acts us x ds is u old one all h k m =
    m
    ∙ ap (λ b. b || uid_is_among ds u)
    (k ∙ ap (λ b. uid_eq u x || b)
    (h ∙ list_any-append (uid_eq u) us (flat_map (descendants_of_action acts) us)))
    ∙ moved (uid_eq u x) (uid_is_among us u) (uid_is_among (flat_map (descendants_of_action acts) us) u) (uid_is_among ds u)
    ∙ (λ i. sym (list_any-append (uid_eq u) us (x ∷ [])) i
    || sym (ap (λ vs. uid_is_among vs u) (flat_map-append (descendants_of_action acts) us (x ∷ []))
    ∙ list_any-append (uid_eq u) (flat_map (descendants_of_action acts) us) (descendants_of_action acts x ++ [])
    ∙ ap (λ b. uid_is_among (flat_map (descendants_of_action acts) us) u || b)
    (list_any-append (uid_eq u) (descendants_of_action acts x) [] ∙ ap (λ vs. uid_is_among vs u || false) is))
    i)
    ∙ sym (list_any-append (uid_eq u) (us ++ x ∷ []) (flat_map (descendants_of_action acts) (us ++ x ∷ [])))
  where
    moved : (x a f d : Bool) → ((x || (a || f)) || d) ≡ ((a || (x || false)) || (f || (d || false)))
    moved true true f d = refl
    moved true false f d = refl
    moved false true f d = refl
    moved false false true d = refl
    moved false false false true = refl
    moved false false false false = refl

-- A search that finds an element shows that one passes; one that finds none shows that none passes
pub found_some : {X : Type 0} (p : X → Bool) (xs : List X) (y : X) → find p xs ≡ Some y → list_any p xs ≡ true
found_some p [] y h = cc
found_some p (x ∷ xs) y h = along (p x) (found_some p xs y) h
  where
    along : (b : Bool) → (find p xs ≡ Some y → list_any p xs ≡ true) → cond b (Some x) (find p xs) ≡ Some y → (b || list_any p xs) ≡ true
    along true k h = refl
    along false k h = k h

pub found_none : {X : Type 0} (p : X → Bool) (xs : List X) → find p xs ≡ None → list_any p xs ≡ false
found_none p [] h = refl
found_none p (x ∷ xs) h = along (p x) (found_none p xs) h
  where
    along : (b : Bool) → (find p xs ≡ None → list_any p xs ≡ false) → cond b (Some x) (find p xs) ≡ None → (b || list_any p xs) ≡ false
    along true k h = cc
    along false k h = k h

-- An element that fails makes the test of all elements fail
pub all_fails : {X Y : Type 0} (f : X → Y) (p : Y → Bool) (xs : List X) (i : ℕ) (x : X) → i < length xs
    → x ≡ get_or xs i x → p (f x) ≡ false → list_all p (map f xs) ≡ false
all_fails f p xs i x below is h = list_all-map p f xs ∙ list_all_at (λ x. p (f x)) xs i x below (ap (λ x. p (f x)) (sym is) ∙ h)
