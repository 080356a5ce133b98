-- The bound of two types, kind by kind.
use Rattle.std.proofs.Common.{arith, ◌≡◌, refl, sym, ap, ◌∙◌, subst, ℕ, Bool, true, false, ◌&&◌, ◌||◌, not, nat_eq, List, Option, Some, None}
use Rattle.std.proofs.Common.{option_map, if◌then◌else◌}
use Rattle.std.specs.Cmp.Lexicographic.{pointwise}
use borrow.Author.Tests.{eq-eqb}
use Rattle.cedar_types.specs.declared.base.types.ValidationMode.{ValidationMode}
use Rattle.cedar_types.specs.Names.{Text, Path, text_eq, path_eq}
use Rattle.cedar_types.specs.Names.Ascending.{paths_ascending}
use Rattle.cedar_types.specs.Types.{Ty, TNever, TSet, TRecord, TEntity, Attrs}
use Rattle.cedar_types.specs.Types.{no_attrs, attr}
use Rattle.cedar_types.specs.Types.Bounds.{attr_count, mark_eq, ty_eq, attrs_eq, find_attr, union, is_strict, is_never, apart_lub, lub}
use Rattle.cedar_types.specs.Types.Bounds.{closed_lub, wide_lub, with_both, with_bound, with_common, both_attrs, common_attrs}
use Rattle.cedar_types.proofs.Comparisons.SameTypes.{and_left, and_right, and_both, ty_to, ty_itself, attrs_to, mark_to, mark_itself}
use Rattle.cedar_types.proofs.Comparisons.SameTypes.{text_itself, paths_decide}
use Rattle.cedar_types.proofs.Names.Unions.{same_members, union_ascends, has_union, has}
use Rattle.cedar_types.proofs.Attributes.FindAttrs.{text_to, names_ascend, NamesAbove, found_here, found_later, first_name_below}
use Rattle.cedar_types.proofs.Attributes.FindAttrs.{rest_names_ascend, names_ascend_from, name_absent, same_look_ups}

-- ---- equal types, and Never
pub lub_same : (m : ValidationMode) (t : Ty) → lub m t t ≡ Some t
lub_same m t = ap (λ b. if b then Some t else if is_never t then Some t else apart_lub m t t) (ty_itself t)

pub lub_equal : (m : ValidationMode) (s t : Ty) → ty_eq s t ≡ true → lub m s t ≡ Some t
lub_equal m s t e = subst (λ u. lub m s u ≡ Some u) (ty_to s t e) (lub_same m s)

pub lub_apart : (m : ValidationMode) (s t : Ty) → ty_eq s t ≡ false → is_never t ≡ false → lub m s t ≡ apart_lub m s t
lub_apart m s t e n =
    ap (λ b. if b then Some s else if is_never t then Some s else apart_lub m s t) e
    ∙ ap (λ b. if b then Some s else apart_lub m s t) n

either_same : {A : Type 0} (b : Bool) (a : A) → (if b then a else a) ≡ a
either_same true a = refl
either_same false a = refl

pub never_right : (m : ValidationMode) (s : Ty) → lub m s TNever ≡ Some s
never_right m s = either_same (ty_eq s TNever) (Some s)

pub never_left : (m : ValidationMode) (t : Ty) → lub m TNever t ≡ Some t
never_left m t = grind arith

-- ---- sets
pub set_is : (m : ValidationMode) (s t : Ty) → lub m (TSet s) (TSet t) ≡ option_map TSet (lub m s t)
set_is m s t = by (ty_eq s t) (if is_never t then Some s else apart_lub m s t)
  where
    by : (b : Bool) (o : Option Ty) → (if b then Some (TSet s) else option_map TSet (if b then Some s else o))
        ≡ option_map TSet (if b then Some s else o)
    by true o = refl
    by false o = refl

-- ---- sets of entity types
pub union_same : (ps : List Path) → paths_ascending ps ≡ true → union ps ps ≡ ps
union_same ps a = same_members (union ps ps) ps (union_ascends ps ps a) a (λ r. has_union r ps ps ∙ twice (has r ps))
  where
    twice : (b : Bool) → (b || b) ≡ b
    twice true = refl
    twice false = refl

pub entity_wide : (m : ValidationMode) (ps qs : List Path) → is_strict m ≡ false → paths_ascending ps ≡ true
    → lub m (TEntity ps) (TEntity qs) ≡ Some (TEntity (union ps qs))
entity_wide m ps qs w a =
    ap (λ c. if pointwise path_eq ps qs then Some (TEntity ps) else if c then None
    else Some (TEntity (union ps qs))) w ∙ by (pointwise path_eq ps qs) refl
  where
    by : (b : Bool) → pointwise path_eq ps qs ≡ b → (if b then Some (TEntity ps) else Some (TEntity (union ps qs)))
        ≡ Some (TEntity (union ps qs))
    by true e = ap (λ rs. Some (TEntity rs)) (sym (union_same ps a) ∙ ap (union ps) ((paths_decide ps qs).0 e))
    by false e = refl

pub entity_strict : (m : ValidationMode) (ps qs : List Path) → is_strict m ≡ true
    → lub m (TEntity ps) (TEntity qs) ≡ (if pointwise path_eq ps qs then Some (TEntity ps) else None)
entity_strict m ps qs w =
    ap (λ c. if pointwise path_eq ps qs then Some (TEntity ps) else if c then None
    else Some (TEntity (union ps qs))) w

-- ---- attributes of the bound in the wide modes, by name
-- The bound of two attributes of one name, if both exist
abbrev pub both_found : ValidationMode → Option (Ty × Bool) → Option (Ty × Bool) → Option (Ty × Bool)
both_found m None b = None
both_found m (Some a) None = None
both_found m (Some a) (Some b) = option_map (λ u. (u, a.1 && b.1)) (lub m a.0 b.0)

pub both_none : (m : ValidationMode) (o p : Option (Ty × Bool)) → o ≡ None → both_found m o p ≡ None
both_none m o p e = ap (λ o. both_found m o p) e

-- A look-up by another name passes over an attribute that may exist
passed_over : (m : ValidationMode) (k l : Text) (o : Option (Ty × Bool)) (bound : Ty → Option Ty) (r : Bool)
    (zs : Attrs) → text_eq k l ≡ false → find_attr k (with_common l o bound r zs) ≡ find_attr k zs
passed_over m k l None bound r zs e = refl
passed_over m k l (Some a) bound r zs e = by (bound a.0)
  where
    by : (v : Option Ty) → find_attr k (with_bound l v (r && a.1) zs) ≡ find_attr k zs
    by None = refl
    by (Some u) = found_later k l u (r && a.1) zs e

-- A look-up by its own name finds the bound of the attribute
found_in_bound : (m : ValidationMode) (k l : Text) (s : Ty) (o : Option (Ty × Bool)) (r : Bool) (zs : Attrs)
    → text_eq k l ≡ true → find_attr k zs ≡ None → find_attr k (with_common l o (lub m s) r zs)
    ≡ both_found m (Some (s, r)) o
found_in_bound m k l s None r zs e n = n
found_in_bound m k l s (Some a) r zs e n = by (lub m s a.0)
  where
    by : (v : Option Ty) → find_attr k (with_bound l v (r && a.1) zs) ≡ option_map (λ u. (u, r && a.1)) v
    by None = n
    by (Some u) = found_here k l u (r && a.1) zs e

pub find_common : (m : ValidationMode) (k : Text) (xs ys : Attrs) → names_ascend xs ≡ true
    → find_attr k (common_attrs m xs ys) ≡ both_found m (find_attr k xs) (find_attr k ys)
find_common m k no_attrs ys a = refl
find_common m k (attr l s r xs) ys a = by (find_common m k xs ys (rest_names_ascend l s r xs a)) (text_eq k l) refl
  where
    by : find_attr k (common_attrs m xs ys) ≡ both_found m (find_attr k xs) (find_attr k ys) → (b : Bool)
        → text_eq k l ≡ b → find_attr k (common_attrs m (attr l s r xs) ys)
        ≡ both_found m (find_attr k (attr l s r xs)) (find_attr k ys)
    by others true e =
        let none = others ∙ both_none m (find_attr k xs) (find_attr k ys) (ap (λ j. find_attr j xs) (text_to k l e)
        ∙ name_absent l xs (first_name_below l s r xs a)) in
        found_in_bound m k l s (find_attr l ys) r (common_attrs m xs ys) e none
        ∙ ap (λ j. both_found m (Some (s, r)) (find_attr j ys)) (sym (text_to k l e))
        ∙ ap (λ o. both_found m o (find_attr k ys)) (sym (found_here k l s r xs e))
    by others false e =
        passed_over m k l (find_attr l ys) (lub m s) r (common_attrs m xs ys) e
        ∙ others
        ∙ ap (λ o. both_found m o (find_attr k ys)) (sym (found_later k l s r xs e))

left_found : (m : ValidationMode) (o p : Option (Ty × Bool)) (c : Ty × Bool) → both_found m o p ≡ Some c → (a : Ty × Bool) × (o ≡ Some a)
left_found m None p c e = absurd (cc)
left_found m (Some a) p c e = (a, refl)

pub common_above : (m : ValidationMode) (k : Text) (xs ys : Attrs) → names_ascend xs ≡ true → NamesAbove k xs
    → NamesAbove k (common_attrs m xs ys)
common_above m k xs ys s h l c e =
    let f = left_found m (find_attr l xs) (find_attr l ys) c (sym (find_common m l xs ys s) ∙ e) in h l f.0 f.1

pub common_ascends : (m : ValidationMode) (xs ys : Attrs) → names_ascend xs ≡ true → names_ascend (common_attrs m xs ys) ≡ true
common_ascends m no_attrs ys a = refl
common_ascends m (attr k s r xs) ys a = by (common_ascends m xs ys (rest_names_ascend k s r xs a)) (find_attr k ys)
  where
    front : names_ascend (common_attrs m xs ys) ≡ true → (v : Option Ty) (q : Bool)
        → names_ascend (with_bound k v q (common_attrs m xs ys)) ≡ true
    front others None q = others
    front others (Some u) q =
        names_ascend_from k u q (common_attrs m xs ys)
        (common_above m k xs ys (rest_names_ascend k s r xs a) (first_name_below k s r xs a)) others

    by : names_ascend (common_attrs m xs ys) ≡ true → (o : Option (Ty × Bool))
        → names_ascend (with_common k o (lub m s) r (common_attrs m xs ys)) ≡ true
    by others None = others
    by others (Some a) = front others (lub m s a.0) (r && a.1)

both_found_same : (m : ValidationMode) (o : Option (Ty × Bool)) → both_found m o o ≡ o
both_found_same m None = refl
both_found_same m (Some a) = ap (option_map (λ u. (u, a.1 && a.1))) (lub_same m a.0) ∙ ap (λ b. Some (a.0, b)) (twice a.1)
  where
    twice : (b : Bool) → (b && b) ≡ b
    twice true = refl
    twice false = refl

pub common_same : (m : ValidationMode) (xs : Attrs) → names_ascend xs ≡ true → common_attrs m xs xs ≡ xs
common_same m xs a =
    same_look_ups (common_attrs m xs xs) xs (common_ascends m xs xs a) a
    (λ k. find_common m k xs xs a ∙ both_found_same m (find_attr k xs))

-- ---- records in the wide modes
count_itself : (n : ℕ) → nat_eq n n ≡ true
count_itself n = eq-eqb n n refl

pub wide_same : (xs zs : Attrs) (o : Bool) → zs ≡ xs → wide_lub xs o xs o zs ≡ TRecord xs o
wide_same xs zs o e =
    ap (wide_lub xs o xs o) e ∙ ap (λ b. TRecord xs (o || o || not (b && b))) (count_itself (attr_count xs)) ∙ ap (TRecord xs) (by o)
  where
    by : (o : Bool) → (o || o || not (true && true)) ≡ o
    by true = refl
    by false = refl

pub record_wide : (m : ValidationMode) (xs ys : Attrs) (o p : Bool) → is_strict m ≡ false → names_ascend xs ≡ true
    → lub m (TRecord xs o) (TRecord ys p) ≡ Some (wide_lub xs o ys p (common_attrs m xs ys))
record_wide m xs ys o p w a =
    ap (λ c. if attrs_eq xs ys && mark_eq o p then Some (TRecord xs o) else if c
    then closed_lub o p (both_attrs m xs ys) else Some (wide_lub xs o ys p (common_attrs m xs ys))) w
    ∙ by (attrs_eq xs ys && mark_eq o p) refl
  where
    by : (b : Bool) → (attrs_eq xs ys && mark_eq o p) ≡ b
        → (if b then Some (TRecord xs o) else Some (wide_lub xs o ys p (common_attrs m xs ys)))
        ≡ Some (wide_lub xs o ys p (common_attrs m xs ys))
    by true e =
        let same = attrs_to xs ys (and_left (attrs_eq xs ys) (mark_eq o p) e) in
        let mark = mark_to o p (and_right (attrs_eq xs ys) (mark_eq o p) e) in
        ap Some (sym (wide_same xs (common_attrs m xs xs) o (common_same m xs a))
        ∙ (λ i. wide_lub xs o (same i) (mark i) (common_attrs m xs (same i))))
    by false e = refl

-- ---- records in Strict
pub record_strict : (m : ValidationMode) (xs ys : Attrs) (o p : Bool) → is_strict m ≡ true
    → lub m (TRecord xs o) (TRecord ys p)
    ≡ (if attrs_eq xs ys && mark_eq o p then Some (TRecord xs o) else closed_lub o p (both_attrs m xs ys))
record_strict m xs ys o p w =
    ap (λ c. if attrs_eq xs ys && mark_eq o p then Some (TRecord xs o) else if c
    then closed_lub o p (both_attrs m xs ys) else Some (wide_lub xs o ys p (common_attrs m xs ys))) w

pub both_same : (m : ValidationMode) (xs : Attrs) → both_attrs m xs xs ≡ Some xs
both_same m no_attrs = refl
both_same m (attr k s r xs) =
    ap (λ b. if b then with_both k (lub m s s) r (both_attrs m xs xs) else None)
    (and_both (text_eq k k) (mark_eq r r) (text_itself k) (mark_itself r))
    ∙ ap (λ u. with_both k u r (both_attrs m xs xs)) (lub_same m s)
    ∙ ap (option_map (attr k s r)) (both_same m xs)
