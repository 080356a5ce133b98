-- Tests of the members of lists, and of the keys of a map that gains one.
use Rattle.std.proofs.Common.{◌≡◌, ◌∙◌, ◌↔◌, Bool, true, false, true≢false, ◌&&◌, ◌||◌, List, [], ◌∷◌, ◌++◌, ◌⊎◌, inl, inr, ℕ, ◌+◌, ◌<◌, map, length, take, get_or, refl, sym, ap, arith}
use Rattle.std.specs.BTreeMap.{insert_entry}
use Rattle.std.specs.List.{list_any}
use Rattle.std.specs.Map.{keys_of}
use Rattle.std.specs.Ordering.{is_eq, match_ordering}
use Rattle.std.specs.declared.cmp.Ordering.{Ordering}
use Rattle.std.specs.declared.cmp.Ordering.TheVariants.{Less, Equal, Greater}
use Rattle.std.proofs.lemmas.List.{map_push, take_more}
use Rattle.std.proofs.lemmas.List.Folds.{list_any-append}
use Rattle.cedar_typing.specs.Evaluation.Conformance.{IsOneOf}
use Rattle.cedar_verdicts.specs.Found.{AreAdded, HaveSameMembers}

-- ---- members that pass a test

pub or_true : (a : Bool) → (a || true) ≡ true
or_true true = refl
or_true false = refl

pub or_false : (a : Bool) → (a || false) ≡ a
or_false true = refl
or_false false = refl

pub or_either : (a b : Bool) → (a || b) ≡ true → (a ≡ true) ⊎ (b ≡ true)
or_either true b h = inl refl
or_either false b h = inr h

pub and_true : (a : Bool) → a ≡ (a && true)
and_true true = refl
and_true false = refl

pub and_false : (a : Bool) → false ≡ (a && false)
and_false true = refl
and_false false = refl

pub same_truth : (a b : Bool) → (a ≡ true → b ≡ true) → (b ≡ true → a ≡ true) → a ≡ b
same_truth true b f g = sym (f refl)
same_truth false true f g = g refl
same_truth false false f g = refl

module _ {A : Type 0} (p : A → Bool) where
  first_or_later : (x : A) (xs : List A) → (list_any p xs ≡ true → (y : A) × IsOneOf y xs × (p y ≡ true))
      → (p x ≡ true) ⊎ (list_any p xs ≡ true) → (y : A) × IsOneOf y (x ∷ xs) × (p y ≡ true)
  first_or_later x xs later (inl e) = (x, inl refl, e)
  first_or_later x xs later (inr e) = let m = later e in (m.0, inr m.1, m.2)

  pub member_passes : (xs : List A) → list_any p xs ≡ true → (x : A) × IsOneOf x xs × (p x ≡ true)
  member_passes [] h = absurd (true≢false (sym h))
  member_passes (x ∷ xs) h =
      first_or_later x xs (λ e. member_passes xs e) (or_either (p x) (list_any p xs) h)

  pub some_passes : (x : A) (xs : List A) → IsOneOf x xs → p x ≡ true → list_any p xs ≡ true
  some_passes x [] i h = absurd i
  some_passes x (y ∷ ys) (inl e) h = ap (λ b. b || list_any p ys) (sym (ap p e) ∙ h)
  some_passes x (y ∷ ys) (inr i) h = ap (λ b. p y || b) (some_passes x ys i h) ∙ or_true (p y)

pub same_members : {A : Type 0} (xs ys : List A) → ((x : A) → IsOneOf x xs ↔ IsOneOf x ys) → HaveSameMembers xs ys
same_members {A} xs ys h p =
    same_truth (list_any p xs) (list_any p ys)
    (λ e. let m = member_passes p xs e in some_passes p m.0 ys ((h m.0).0 m.1) m.2)
    (λ e. let m = member_passes p ys e in some_passes p m.0 xs ((h m.0).1 m.1) m.2)

-- a list has a member that passes a test if another one has, and so have both with one member more
pub kept_any : {A B : Type 0} (p : A → Bool) (q : B → Bool) (xs next : List A) (x : A) (ys new : List B) (y : B)
    → next ≡ xs ++ x ∷ [] → new ≡ ys ++ y ∷ [] → (list_any p xs ≡ true → list_any q ys ≡ true)
    → (p x ≡ true → q y ≡ true) → list_any p next ≡ true → list_any q new ≡ true
kept_any p q xs next x ys new y one pushed before last h =
    ap (list_any q) pushed ∙ list_any-append q ys (y ∷ [])
    ∙ by_case (or_either (list_any p xs) (p x || false) (sym (list_any-append p xs (x ∷ [])) ∙ (sym (ap (list_any p) one) ∙ h)))
  where
    by_case : (list_any p xs ≡ true) ⊎ ((p x || false) ≡ true) → (list_any q ys || (q y || false)) ≡ true
    by_case (inl e) = ap (λ b. b || (q y || false)) (before e)
    by_case (inr e) =
        ap (λ b. list_any q ys || (b || false)) (last (sym (or_false (p x)) ∙ e)) ∙ or_true (list_any q ys)

-- the first elements and one more
pub next_taken : {A : Type 0} (xs : List A) (i : ℕ) (x : A) → i < length xs → x ≡ get_or xs i x
    → take (i + 1) xs ≡ take i xs ++ x ∷ []
next_taken xs i x below is = take_more xs i x below ∙ ap (λ y. take i xs ++ y ∷ []) (sym is)

-- ---- lists that gain members

pub none_left : {A : Type 0} (xs : List A) → length xs ≡ 0 → xs ≡ []
none_left [] h = refl
none_left (x ∷ xs) h = absurd (omega arith)

or_moved : (a b c : Bool) → ((b || false) || (a || c)) ≡ ((a || (b || false)) || c)
or_moved true true c = refl
or_moved true false c = refl
or_moved false true c = refl
or_moved false false c = refl

-- one more is added to those so far
pub added_one_more : {A B : Type 0} (view : A → B) (before : List A) (x : A) (old mid new : List B)
    → AreAdded (map view before) old mid → AreAdded (view x ∷ []) mid new
    → AreAdded (map view (before ++ x ∷ [])) old new
added_one_more view before x old mid new so_far last p =
    last p ∙ ap (λ b. (p (view x) || false) || b) (so_far p)
    ∙ or_moved (list_any p (map view before)) (p (view x)) (list_any p old)
    ∙ ap (λ b. b || list_any p old)
    (sym (ap (list_any p) (map_push view before x) ∙ list_any-append p (map view before) (view x ∷ [])))

or_turned : (a b : Bool) → (a || b) ≡ (b || a)
or_turned true true = refl
or_turned true false = refl
or_turned false true = refl
or_turned false false = refl

-- these are added behind the members that a list has
pub added_behind : {A : Type 0} (old new all these found : List A) → found ≡ these
    → HaveSameMembers old all → AreAdded found old new → HaveSameMembers new (all ++ these)
added_behind old new all these found is same added p =
    added p ∙ (λ i. list_any p (is i) || same p i) ∙ or_turned (list_any p these) (list_any p all)
    ∙ sym (list_any-append p all these)

-- ---- keys of a map that gains one

absorbed : (a r : Bool) → (a || r) ≡ (a || (a || r))
absorbed true r = refl
absorbed false r = refl

swapped : (a b r : Bool) → (a || (b || r)) ≡ (b || (a || r))
swapped true true r = refl
swapped true false r = refl
swapped false true r = refl
swapped false false r = refl

module _ {K V F : Type 0} (cmp : K → K → Ordering) (view : K → F)
    (tied : (a b : K) → cmp a b ≡ Equal → view a ≡ view b) (p : F → Bool) where
  abbrev passes : List (K × V) → Bool
  passes es = list_any p (map view (keys_of es))

  pub with_key : (k : K) (v : V) (es : List (K × V))
      → passes (insert_entry cmp es k v) ≡ (p (view k) || passes es)
  with_key k v [] = refl
  with_key k v (e ∷ es) = along (cmp k e.0) refl (with_key k v es)
    where
      along : (o : Ordering) → o ≡ cmp k e.0
          → passes (insert_entry cmp es k v) ≡ (p (view k) || passes es)
          → passes (match_ordering o ((k, v) ∷ e ∷ es) ((e.0, v) ∷ es) (e ∷ insert_entry cmp es k v))
          ≡ (p (view k) || (p (view e.0) || passes es))
      along Less is i = refl
      along Equal is i =
          absorbed (p (view e.0)) (passes es)
          ∙ ap (λ y. p y || (p (view e.0) || passes es)) (sym (tied k e.0 (sym is)))
      along Greater is i =
          ap (λ b. p (view e.0) || b) i ∙ swapped (p (view e.0)) (p (view k)) (passes es)
