-- Attributes by name: look-ups determine ascending attributes.
use Rattle.std.proofs.Common.{◌≡◌, refl, sym, ap, ◌∙◌, subst, Bool, true, false, Option, Some, None, if◌then◌else◌}
use Rattle.std.specs.declared.cmp.Ordering.{Ordering}
use Rattle.std.specs.declared.cmp.Ordering.TheVariants.{Less, Equal, Greater}
use Rattle.std.specs.Ordering.{is_lt, is_eq}
use Rattle.std.specs.Cmp.Lexicographic.{nat_list_cmp_total, texts_ties}
use Rattle.std.specs.List.{list_all}
use Rattle.cedar_types.specs.Names.{Text, text_cmp, text_eq}
use Rattle.cedar_types.specs.Names.Ascending.{texts_ascending}
use Rattle.cedar_types.specs.Types.{Ty, Attrs, no_attrs, attr, attr_names, is_well_formed, are_well_formed}
use Rattle.cedar_types.specs.Types.Bounds.{find_attr}
use Rattle.cedar_types.proofs.Comparisons.SameTypes.{and_left, and_right, and_both, text_decides, text_itself}
use Rattle.cedar_types.proofs.Entries.Ascending.{turned, not_below_itself, not_both_ways}
use Rattle.cedar_types.proofs.Names.Unions.{less_is, not_true}

pub text_to : (k l : Text) → text_eq k l ≡ true → k ≡ l
text_to k l e = (text_decides k l).0 e

tied_texts : (k l : Text) → text_cmp k l ≡ Equal → k ≡ l
tied_texts k l e = text_to k l (texts_ties k l ∙ ap is_eq e)

abbrev pub names_ascend : Attrs → Bool
names_ascend xs = texts_ascending (attr_names xs)

-- Each name among the attributes is above k
abbrev pub NamesAbove : Text → Attrs → Type 0
NamesAbove k xs = (l : Text) (a : Ty × Bool) → find_attr l xs ≡ Some a → text_cmp k l ≡ Less

-- Look-ups in one attribute followed by others
pub found_here : (k l : Text) (t : Ty) (r : Bool) (xs : Attrs) → text_eq k l ≡ true → find_attr k (attr l t r xs) ≡ Some (t, r)
found_here k l t r xs e = ap (λ b. if◌then◌else◌ {A = Option (Ty × Bool)} b (Some (t, r)) (find_attr k xs)) e

pub found_later : (k l : Text) (t : Ty) (r : Bool) (xs : Attrs) → text_eq k l ≡ false → find_attr k (attr l t r xs) ≡ find_attr k xs
found_later k l t r xs e = ap (λ b. if◌then◌else◌ {A = Option (Ty × Bool)} b (Some (t, r)) (find_attr k xs)) e

pub found_first : (k : Text) (t : Ty) (r : Bool) (xs : Attrs) → find_attr k (attr k t r xs) ≡ Some (t, r)
found_first k t r xs = found_here k k t r xs (text_itself k)

none_is_some : {A : Type 0} (a : A) → ◌≡◌ {A = Option A} None (Some a) → ⊥
none_is_some a e = cc

pub names_above_from : (k : Text) (xs : Attrs) → list_all (λ l. is_lt (text_cmp k l)) (attr_names xs) ≡ true → NamesAbove k xs
names_above_from k no_attrs h l a e = absurd (none_is_some a e)
names_above_from k (attr j t r xs) h l a e =
    by (names_above_from k xs
    (and_right (is_lt (text_cmp k j)) (list_all (λ l. is_lt (text_cmp k l)) (attr_names xs)) h) l a) (text_eq l j)
    refl
  where
    by : (find_attr l xs ≡ Some a → text_cmp k l ≡ Less) → (b : Bool) → text_eq l j ≡ b → text_cmp k l ≡ Less
    by others true f =
        subst (λ m. text_cmp k m ≡ Less) (sym (text_to l j f))
        (less_is (text_cmp k j) (and_left (is_lt (text_cmp k j))
        (list_all (λ l. is_lt (text_cmp k l)) (attr_names xs)) h))
    by others false f = others (sym (found_later l j t r xs f) ∙ e)

-- A look-up by a name above the first name passes over the first attribute
later_found : (j l : Text) (t : Ty) (r : Bool) (xs : Attrs) (a : Ty × Bool) → text_cmp j l ≡ Less
    → find_attr l xs ≡ Some a → find_attr l (attr j t r xs) ≡ Some a
later_found j l t r xs a less e =
    found_later l j t r xs (not_true (text_eq l j)
    (λ f. not_below_itself nat_list_cmp_total l (subst (λ m. text_cmp m l ≡ Less) (sym (text_to l j f)) less))) ∙ e

pub names_above_to : (k : Text) (xs : Attrs) → names_ascend xs ≡ true → NamesAbove k xs
    → list_all (λ l. is_lt (text_cmp k l)) (attr_names xs) ≡ true
names_above_to k no_attrs s h = refl
names_above_to k (attr j t r xs) s h =
    let first = names_above_from j xs (and_left (list_all (λ l. is_lt (text_cmp j l)) (attr_names xs)) (names_ascend xs) s) in
    and_both (is_lt (text_cmp k j)) (list_all (λ l. is_lt (text_cmp k l)) (attr_names xs)) (ap is_lt (h j (t, r) (found_first j t r xs)))
    (names_above_to k xs (and_right (list_all (λ l. is_lt (text_cmp j l)) (attr_names xs)) (names_ascend xs) s)
    (λ l a e. h l a (later_found j l t r xs a (first l a e) e)))

pub first_name_below : (k : Text) (t : Ty) (r : Bool) (xs : Attrs) → names_ascend (attr k t r xs) ≡ true → NamesAbove k xs
first_name_below k t r xs s = names_above_from k xs (and_left (list_all (λ l. is_lt (text_cmp k l)) (attr_names xs)) (names_ascend xs) s)

pub rest_names_ascend : (k : Text) (t : Ty) (r : Bool) (xs : Attrs) → names_ascend (attr k t r xs) ≡ true → names_ascend xs ≡ true
rest_names_ascend k t r xs s = and_right (list_all (λ l. is_lt (text_cmp k l)) (attr_names xs)) (names_ascend xs) s

pub names_ascend_from : (k : Text) (t : Ty) (r : Bool) (xs : Attrs) → NamesAbove k xs → names_ascend xs ≡ true
    → names_ascend (attr k t r xs) ≡ true
names_ascend_from k t r xs h s =
    and_both (list_all (λ l. is_lt (text_cmp k l)) (attr_names xs)) (names_ascend xs) (names_above_to k xs s h) s

option_none : {A : Type 0} (o : Option A) → ((a : A) → o ≡ Some a → ⊥) → o ≡ None
option_none None h = refl
option_none (Some a) h = absurd (h a refl)

pub name_absent : (k : Text) (xs : Attrs) → NamesAbove k xs → find_attr k xs ≡ None
name_absent k xs h = option_none (find_attr k xs) (λ a e. not_below_itself nat_list_cmp_total k (h k a e))

some_type : (a b : Ty × Bool) → ◌≡◌ {A = Option (Ty × Bool)} (Some a) (Some b) → a ≡ b
some_type a b e = cc

-- Ascending attributes are equal if all their look-ups agree
pub same_look_ups : (xs ys : Attrs) → names_ascend xs ≡ true → names_ascend ys ≡ true
    → ((k : Text) → find_attr k xs ≡ find_attr k ys) → xs ≡ ys
same_look_ups no_attrs no_attrs a b h = refl
same_look_ups no_attrs (attr l t q ys) a b h = absurd (none_is_some (t, q) (h l ∙ found_first l t q ys))
same_look_ups (attr k s r xs) no_attrs a b h = absurd (none_is_some (s, r) (sym (sym (found_first k s r xs) ∙ h k)))
same_look_ups (attr k s r xs) (attr l t q ys) a b h =
    by (same_look_ups xs ys (rest_names_ascend k s r xs a) (rest_names_ascend l t q ys b)) (text_cmp k l) refl
  where
    first_of_l : text_cmp k l ≡ Less → (c : Bool) → text_eq k l ≡ c → ⊥
    first_of_l e true f = not_below_itself nat_list_cmp_total k (subst (λ m. text_cmp k m ≡ Less) (sym (text_to k l f)) e)
    first_of_l e false f =
        not_both_ways nat_list_cmp_total k l e
        (first_name_below l t q ys b k (s, r) (sym (found_later k l t q ys f) ∙ sym (h k) ∙ found_first k s r xs))

    first_of_k : text_cmp l k ≡ Less → (c : Bool) → text_eq l k ≡ c → ⊥
    first_of_k e true f = not_below_itself nat_list_cmp_total l (subst (λ m. text_cmp l m ≡ Less) (sym (text_to l k f)) e)
    first_of_k e false f =
        not_both_ways nat_list_cmp_total l k e
        (first_name_below k s r xs a l (t, q) (sym (found_later l k s r xs f) ∙ h l ∙ found_first l t q ys))

    rest : k ≡ l → (j : Text) (c : Bool) → text_eq j k ≡ c → find_attr j xs ≡ find_attr j ys
    rest e j true f =
        let at_k = ap (λ i. find_attr i xs) (text_to j k f) ∙ name_absent k xs (first_name_below k s r xs a) in
        let at_l = ap (λ i. find_attr i ys) (text_to j k f ∙ e) ∙ name_absent l ys (first_name_below l t q ys b) in
        at_k ∙ sym at_l
    rest e j false f = sym (found_later j k s r xs f) ∙ h j ∙ found_later j l t q ys (ap (text_eq j) (sym e) ∙ f)

    by : (((j : Text) → find_attr j xs ≡ find_attr j ys) → xs ≡ ys) → (o : Ordering) → text_cmp k l ≡ o → attr k s r xs ≡ attr l t q ys
    by others Less e = absurd (first_of_l e (text_eq k l) refl)
    by others Equal e =
        let same = tied_texts k l e in
        let here = some_type (s, r) (t, q) (sym (found_first k s r xs) ∙ h k ∙ found_here k l t q ys ((text_decides k l).1 same)) in
        λ i. attr (same i) (here i).0 (here i).1 (others (λ j. rest same j (text_eq j k) refl) i)
    by others Greater e = absurd (first_of_k (turned nat_list_cmp_total k l e) (text_eq l k) refl)

-- ---- properties of each attribute's type
abbrev pub AllTypes : (Ty → Type 0) → Attrs → Type 0
AllTypes P no_attrs = Unit {0}
AllTypes P (attr k t r xs) = P t × AllTypes P xs

pub found_type : (P : Ty → Type 0) (k : Text) (xs : Attrs) → AllTypes P xs → (a : Ty × Bool) → find_attr k xs ≡ Some a → P a.0
found_type P k no_attrs h a e = absurd (none_is_some a e)
found_type P k (attr l t r xs) h a e = by (found_type P k xs h.1 a) (text_eq k l) refl
  where
    by : (find_attr k xs ≡ Some a → P a.0) → (b : Bool) → text_eq k l ≡ b → P a.0
    by others true f = subst (λ c. P c.0) (some_type (t, r) a (sym (found_here k l t r xs f) ∙ e)) h.0
    by others false f = others (sym (found_later k l t r xs f) ∙ e)

pub all_well_formed : (xs : Attrs) → are_well_formed xs ≡ true → AllTypes (λ t. is_well_formed t ≡ true) xs
all_well_formed no_attrs w = tt
all_well_formed (attr k t r xs) w = (
  and_left (is_well_formed t) (are_well_formed xs) w,
  all_well_formed xs (and_right (is_well_formed t) (are_well_formed xs) w),
)
