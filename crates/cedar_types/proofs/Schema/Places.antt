-- Places of declarations, and look-ups through them.
use Rattle.std.proofs.Common.{◌≡◌, refl, sym, ap, ◌∙◌, arith, ℕ, zero, suc, Bool, true, false, cond, ◌||◌, List, [], ◌∷◌, ◌++◌, map, length, take, drop}
use Rattle.std.proofs.Common.{get_or, ◌+◌, ◌<◌, ◌≤◌, Option, Some, None, is_some, option_map}
use Rattle.std.specs.declared.cmp.Ordering.{Ordering}
use Rattle.std.specs.Bool.{Decides}
use Rattle.std.specs.Map.{lookup}
use Rattle.std.specs.Ordering.{is_eq}
use Rattle.std.specs.Option.{option_or}
use Rattle.std.specs.List.{list_any, find, slice_get}
use Rattle.std.specs.Borrow.{Bor}
use Rattle.std.specs.Slice.{IsItemAt}
use Rattle.std.proofs.Math.Bool.{or-true}
use Rattle.std.proofs.lemmas.List.{take_more, take-map, take-append-drop, map-append}
use Rattle.std.proofs.lemmas.Option.{slice_get_past, slice_get-get_or}
use Rattle.std.proofs.lemmas.List.Folds.{list_any-append}
use Rattle.std.proofs.lemmas.Bool.Decides.{Decides-like, same_from_decides}
use Rattle.cedar_types.specs.Schemas.Tables.Places.{place_in}
use Rattle.cedar_types.specs.Schemas.{has_repeat}

-- A place for a test exists exactly if an element passes
pub any_placed : {X : Type 0} (p : X → Bool) (xs : List X) → is_some (place_in p xs) ≡ list_any p xs
any_placed p [] = refl
any_placed p (x ∷ xs) =
    elim (p x) as (λ b. is_some (cond b (Some 0) (option_map suc (place_in p xs)))
    ≡ (b || list_any p xs)) [ true ↦ refl | false ↦ mapped (place_in p xs) ∙ any_placed p xs ]
  where
    mapped : (o : Option ℕ) → is_some (option_map suc o) ≡ is_some o
    mapped None = refl
    mapped (Some n) = refl

-- The element at the place is the first that passes
pub found_at : {X : Type 0} (p : X → Bool) (xs : List X) (i : ℕ) → place_in p xs ≡ Some i → find p xs ≡ slice_get xs i
found_at p [] i e = cc
found_at p (x ∷ xs) i e = along (p x) (place_in p xs) (λ n h. found_at p xs n h) e
  where
    along : (b : Bool) (o : Option ℕ) → ((n : ℕ) → o ≡ Some n → find p xs ≡ slice_get xs n)
        → cond b (Some 0) (option_map suc o) ≡ Some i → cond b (Some x) (find p xs) ≡ slice_get (x ∷ xs) i
    along true o h e = let at : 0 ≡ i = cc in ap (slice_get (x ∷ xs)) at
    along false (Some n) h e = let at : suc n ≡ i = cc in h n refl ∙ ap (slice_get (x ∷ xs)) at
    along false None h e = cc

-- No element passes if there is no place
pub found_nowhere : {X : Type 0} (p : X → Bool) (xs : List X) → place_in p xs ≡ None → find p xs ≡ None
found_nowhere p [] e = refl
found_nowhere p (x ∷ xs) e = along (p x) (place_in p xs) (found_nowhere p xs) e
  where
    along : (b : Bool) (o : Option ℕ) → (o ≡ None → find p xs ≡ None) → cond b (Some 0) (option_map suc o) ≡ None
        → cond b (Some x) (find p xs) ≡ None
    along true o h e = cc
    along false (Some n) h e = cc
    along false None h e = h refl

-- The first element whose image under f passes is the first that passes after mapping
pub find_mapped : {X Y : Type 0} (f : X → Y) (p : Y → Bool) (xs : List X) → option_map f (find (λ x. p (f x)) xs) ≡ find p (map f xs)
find_mapped f p [] = refl
find_mapped f p (x ∷ xs) =
    elim (p (f x)) as (λ b. option_map f (cond b (Some x) (find (λ x. p (f x)) xs))
    ≡ cond b (Some (f x)) (find p (map f xs))) [ true ↦ refl | false ↦ find_mapped f p xs ]

pub any_mapped : {X Y : Type 0} (f : X → Y) (p : Y → Bool) (xs : List X) → list_any (λ x. p (f x)) xs ≡ list_any p (map f xs)
any_mapped f p [] = refl
any_mapped f p (x ∷ xs) = ap (λ b. p (f x) || b) (any_mapped f p xs)

-- ---- by names

-- A test that decides equality is symmetric
pub decided_symm : {K : Type 0} (same : K → K → Bool) → ((a b : K) → Decides (same a b) (a ≡ b)) → (a b : K) → same a b ≡ same b a
decided_symm same decides a b =
    same_from_decides (same a b) (same b a) (decides a b) (Decides-like (same b a) sym sym (decides b a))

-- A look-up under the order of names is a look-up by key
pub asked_by_name : {N K V : Type 0} (cmp : N → N → Ordering) (eq : N → N → Bool) (same : K → K → Bool) (key : N → K)
    → ((a b : N) → eq a b ≡ is_eq (cmp a b)) → ((a b : N) → eq a b ≡ same (key a) (key b)) → (q : N) (es : List (N × V))
    → lookup (λ n. is_eq (cmp q n)) es ≡ lookup (λ n. same (key q) (key n)) es
asked_by_name cmp eq same key ties equal q es = ap (λ test. lookup test es) (λ i n. (sym (ties q n) ∙ equal q n) i)

-- ---- look-ups among the first n elements

-- The element at a place before n is found among the first n elements
found_before : {X : Type 0} (p : X → Bool) (xs : List X) (i n : ℕ) → place_in p xs ≡ Some i → i < n
    → find p (take n xs) ≡ slice_get xs i
found_before p [] i n e l = cc
found_before p (x ∷ xs) i zero e l = absurd (omega (arith, l))
found_before p (x ∷ xs) i (suc n) e l = along (p x) (place_in p xs) (λ j h k. found_before p xs j n h k) e
  where
    along : (b : Bool) (o : Option ℕ) → ((j : ℕ) → o ≡ Some j → j < n → find p (take n xs) ≡ slice_get xs j)
        → cond b (Some 0) (option_map suc o) ≡ Some i → cond b (Some x) (find p (take n xs)) ≡ slice_get (x ∷ xs) i
    along true o h e = let at : 0 ≡ i = cc in ap (slice_get (x ∷ xs)) at
    along false (Some j) h e = let at : suc j ≡ i = cc in h j refl (omega (arith, at, l)) ∙ ap (slice_get (x ∷ xs)) at
    along false None h e = cc

-- Nothing is found among the first n elements if the place is n or later
found_later : {X : Type 0} (p : X → Bool) (xs : List X) (i n : ℕ) → place_in p xs ≡ Some i → n ≤ i
    → find p (take n xs) ≡ None
found_later p [] i n e l = cc
found_later p (x ∷ xs) i zero e l = refl
found_later p (x ∷ xs) i (suc n) e l = along (p x) (place_in p xs) (λ j h k. found_later p xs j n h k) e
  where
    along : (b : Bool) (o : Option ℕ) → ((j : ℕ) → o ≡ Some j → n ≤ j → find p (take n xs) ≡ None)
        → cond b (Some 0) (option_map suc o) ≡ Some i → cond b (Some x) (find p (take n xs)) ≡ None
    along true o h e = let at : 0 ≡ i = cc in absurd (omega (arith, at, l))
    along false (Some j) h e = let at : suc j ≡ i = cc in h j refl (omega (arith, at, l))
    along false None h e = cc

-- Nothing is found if no element passes
found_never : {X : Type 0} (p : X → Bool) (xs : List X) (n : ℕ) → place_in p xs ≡ None → find p (take n xs) ≡ None
found_never p [] zero e = refl
found_never p [] (suc n) e = refl
found_never p (x ∷ xs) zero e = refl
found_never p (x ∷ xs) (suc n) e = along (p x) (place_in p xs) (found_never p xs n) e
  where
    along : (b : Bool) (o : Option ℕ) → (o ≡ None → find p (take n xs) ≡ None) → cond b (Some 0) (option_map suc o) ≡ None
        → cond b (Some x) (find p (take n xs)) ≡ None
    along true o h e = cc
    along false (Some j) h e = cc
    along false None h e = h refl

first_mapped : {X Y : Type 0} (f : X → Y) (p : Y → Bool) (xs : List X) (n : ℕ) (o : Option X)
    → find (λ x. p (f x)) (take n xs) ≡ o → option_map f o ≡ find p (take n (map f xs))
first_mapped f p xs n o e =
    ap (option_map f) (sym e) ∙ find_mapped f p (take n xs) ∙ ap (find p) (sym (take-map f n xs))

-- The images under f of the three cases above
pub mapped_before : {X Y : Type 0} (f : X → Y) (p : Y → Bool) (xs : List X) (i n : ℕ)
    → Some i ≡ place_in (λ x. p (f x)) xs → i < n → option_map f (slice_get xs i) ≡ find p (take n (map f xs))
mapped_before f p xs i n e l = first_mapped f p xs n (slice_get xs i) (found_before (λ x. p (f x)) xs i n (sym e) l)

pub mapped_later : {X Y : Type 0} (f : X → Y) (p : Y → Bool) (xs : List X) (i n : ℕ)
    → Some i ≡ place_in (λ x. p (f x)) xs → n ≤ i → None ≡ find p (take n (map f xs))
mapped_later f p xs i n e l = first_mapped f p xs n None (found_later (λ x. p (f x)) xs i n (sym e) l)

pub mapped_never : {X Y : Type 0} (f : X → Y) (p : Y → Bool) (xs : List X) (n : ℕ)
    → None ≡ place_in (λ x. p (f x)) xs → None ≡ find p (take n (map f xs))
mapped_never f p xs n e = first_mapped f p xs n None (found_never (λ x. p (f x)) xs n (sym e))

-- ---- one more element

-- The place of a test in a list with one more element at the end
pub place_push : {X : Type 0} (p : X → Bool) (xs : List X) (y : X)
    → place_in p (xs ++ y ∷ []) ≡ option_or (place_in p xs) (cond (p y) (Some (length xs)) None)
place_push p [] y = refl
place_push p (x ∷ xs) y = elim (p x) as (λ b. cond b (Some 0) (option_map suc (place_in p (xs ++ y ∷ []))) ≡ option_or (cond b (Some 0) (option_map suc (place_in p xs))) (cond (p y) (Some (suc (length xs))) None)) [ true ↦ refl | false ↦ ap (option_map suc) (place_push p xs y) ∙ after (place_in p xs) (p y) ]
  where
    after : (o : Option ℕ) (b : Bool) → option_map suc (option_or o (cond b (Some (length xs)) None))
        ≡ option_or (option_map suc o) (cond b (Some (suc (length xs))) None)
    after (Some n) b = refl
    after None true = refl
    after None false = refl

-- An entry for the next declaration keeps the index, if its name was not among those so far
pub placed_next : {X B : Type 0} (same : B → B → Bool) (name : X → B) (q k : B) (xs : List X) (x : X) (i : ℕ)
    (old new : Option ℕ) → ((a b : B) → Decides (same a b) (a ≡ b)) → k ≡ name x
    → new ≡ cond (same k q) (Some i) old → old ≡ place_in (λ x. same q (name x)) xs → (same k q ≡ true → old ≡ None)
    → i ≡ length xs → new ≡ place_in (λ x. same q (name x)) (xs ++ x ∷ [])
placed_next same name q k xs x i old new dec named updated placed absent at =
    updated
    ∙ settle (same k q) absent refl
    ∙ ap (λ n. option_or (place_in (λ x. same q (name x)) xs) (cond (same q (name x)) (Some n) None)) at
    ∙ sym (place_push (λ x. same q (name x)) xs x)
  where
    turned : same k q ≡ same q (name x)
    turned =
        same_from_decides (same k q) (same q (name x))
        (Decides-like (same k q) (λ e. sym e ∙ named) (λ e. named ∙ sym e) (dec k q)) (dec q (name x))

    settle : (b : Bool) → (b ≡ true → old ≡ None) → b ≡ same k q
        → cond b (Some i) old ≡ option_or (place_in (λ x. same q (name x)) xs)
        (cond (same q (name x)) (Some i) None)
    settle true h e = λ j. option_or ((sym (h refl) ∙ placed) j) (cond ((e ∙ turned) j) (Some i) None)
    settle false h e = missed old ∙ λ j. option_or (placed j) (cond ((e ∙ turned) j) (Some i) None)
      where
        missed : (o : Option ℕ) → o ≡ option_or o None
        missed None = refl
        missed (Some n) = refl

-- ---- repeats

-- Repeats among the first elements are repeats among all
pub repeat_among : {X : Type 0} (same : X → X → Bool) (xs ys : List X) → has_repeat same xs ≡ true → has_repeat same (xs ++ ys) ≡ true
repeat_among same [] ys h = cc
repeat_among same (x ∷ xs) ys h =
    ap (λ b. b || has_repeat same (xs ++ ys)) (list_any-append (same x) xs ys)
    ∙ either (list_any (same x) xs) (has_repeat same xs) h (repeat_among same xs ys)
  where
    either : (a b : Bool) → (a || b) ≡ true → (b ≡ true → has_repeat same (xs ++ ys) ≡ true)
        → ((a || list_any (same x) ys) || has_repeat same (xs ++ ys)) ≡ true
    either true b h k = refl
    either false b h k = ap (λ r. list_any (same x) ys || r) (k h) ∙ or-true (list_any (same x) ys)

-- A list with y at the end repeats if it repeated before, or has an element equal to y
pub repeat_push : {X : Type 0} (same : X → X → Bool) → ((x y : X) → same x y ≡ same y x) → (xs : List X) (y : X)
    → has_repeat same (xs ++ y ∷ []) ≡ (has_repeat same xs || list_any (same y) xs)
repeat_push same symm [] y = refl
repeat_push same symm (x ∷ xs) y =
    (λ i. list_any-append (same x) xs (y ∷ []) i || repeat_push same symm xs y i)
    ∙ ap (λ s. (list_any (same x) xs || (s || false)) || (has_repeat same xs || list_any (same y) xs)) (symm x y)
    ∙ swapped (list_any (same x) xs) (same y x) (has_repeat same xs) (list_any (same y) xs)
  where
    swapped : (a s r b : Bool) → ((a || (s || false)) || (r || b)) ≡ ((a || r) || (s || b))
    swapped true s r b = refl
    swapped false true r b = sym (or-true r)
    swapped false false r b = refl

-- The images under f of the first elements and one more
pub next_mapped : {X Y : Type 0} (f : X → Y) (xs : List X) (i : ℕ) (x : X) → i < length xs → x ≡ get_or xs i x
    → map f (take (i + 1) xs) ≡ map f (take i xs) ++ f x ∷ []
next_mapped f xs i x below is =
    ap (map f) (take_more xs i x below ∙ ap (λ y. take i xs ++ y ∷ []) (sym is)) ∙ map-append f (take i xs) (x ∷ [])

-- A name that is already among the first elements repeats
pub repeat_found : {X Y : Type 0} (f : X → Y) (same : Y → Y → Bool) → ((x y : Y) → same x y ≡ same y x)
    → (xs : List X) (i : ℕ) (x : X) → i < length xs → x ≡ get_or xs i x
    → list_any (λ y. same (f x) (f y)) (take i xs) ≡ true → has_repeat same (map f xs) ≡ true
repeat_found f same symm xs i x below is h =
    ap (λ ys. has_repeat same (map f ys)) (sym (take-append-drop (i + 1) xs))
    ∙ ap (has_repeat same) (map-append f (take (i + 1) xs) (drop (i + 1) xs))
    ∙ repeat_among same (map f (take (i + 1) xs)) (map f (drop (i + 1) xs))
    (ap (has_repeat same) (next_mapped f xs i x below is) ∙ repeat_push same symm (map f (take i xs)) (f x)
    ∙ ap (λ b. has_repeat same (map f (take i xs)) || b) (sym (any_mapped f (same (f x)) (take i xs)) ∙ h)
    ∙ or-true (has_repeat same (map f (take i xs))))

-- A new name keeps the first elements without repeats
pub repeat_not_found : {X Y : Type 0} (f : X → Y) (same : Y → Y → Bool) → ((x y : Y) → same x y ≡ same y x)
    → (xs : List X) (i : ℕ) (x : X) → i < length xs → x ≡ get_or xs i x
    → list_any (λ y. same (f x) (f y)) (take i xs) ≡ false → has_repeat same (map f (take i xs)) ≡ false
    → has_repeat same (map f (take (i + 1) xs)) ≡ false
repeat_not_found f same symm xs i x below is h apart =
    ap (has_repeat same) (next_mapped f xs i x below is)
    ∙ repeat_push same symm (map f (take i xs)) (f x)
    ∙ (λ j. apart j || (sym (any_mapped f (same (f x)) (take i xs)) ∙ h) j)

-- The item that `get` gives is the element at the index
pub item_at : {X : Type 0} (xs : List X) (i : ℕ) (o : Option (Bor X)) → IsItemAt xs i o → option_map (λ x. x.now) o ≡ slice_get xs i
item_at xs i None h = sym (slice_get_past xs i h.3)
item_at xs i (Some x) h = ap Some h.1 ∙ sym (slice_get-get_or xs i x.now h.3.0)

pub map_twice : {X Y Z : Type 0} (f : X → Y) (g : Y → Z) (o : Option X) → option_map (λ x. g (f x)) o ≡ option_map g (option_map f o)
map_twice f g None = refl
map_twice f g (Some x) = refl

pub is_none : {X : Type 0} (o : Option X) → is_some o ≡ false → o ≡ None
is_none None h = refl
is_none (Some x) h = cc
