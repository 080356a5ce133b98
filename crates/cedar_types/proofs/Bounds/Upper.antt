-- The bound of well-formed types is an upper bound.
use Rattle.std.proofs.Common.{◌≡◌, refl, sym, ap, ◌∙◌, subst, Bool, true, false, ◌&&◌, ◌||◌, not, nat_eq, List, Option, Some, None}
use Rattle.std.proofs.Common.{option_map, if◌then◌else◌}
use Rattle.std.specs.Cmp.Lexicographic.{pointwise}
use borrow.Author.Tests.{eq-eqb}
use Rattle.cedar_types.specs.declared.base.types.BoolType.{BoolType}
use Rattle.cedar_types.specs.declared.base.types.BoolType.TheVariants.{AnyBool, True, False}
use Rattle.cedar_types.specs.declared.base.types.ValidationMode.{ValidationMode}
use Rattle.cedar_types.specs.Names.{Text, Path, text_eq, path_eq}
use Rattle.cedar_types.specs.Names.Ascending.{has_members, paths_ascending}
use Rattle.cedar_types.specs.Types.{Ty, TNever, TBool, TLong, TString, TSet, TAnySet, TRecord, TEntity, TAnyEntity, TExtension, Attrs}
use Rattle.cedar_types.specs.Types.{no_attrs, attr, is_well_formed, are_well_formed}
use Rattle.cedar_types.specs.Types.Bounds.{attr_count, mark_eq, ty_eq, find_attr, union, is_strict, lub, closed_lub, wide_lub, with_both}
use Rattle.cedar_types.specs.Types.Bounds.{both_attrs, common_attrs}
use Rattle.cedar_types.proofs.Comparisons.SameTypes.{and_left, and_right, and_both, text_itself, mark_itself}
use Rattle.cedar_types.proofs.Names.Unions.{union_absorbs}
use Rattle.cedar_types.proofs.Attributes.FindAttrs.{names_ascend, same_look_ups, AllTypes, found_type}
use Rattle.cedar_types.proofs.Bounds.Steps.{lub_same, lub_equal, never_left, never_right, set_is, entity_wide, entity_strict, both_found}
use Rattle.cedar_types.proofs.Bounds.Steps.{find_common, common_ascends, record_wide, record_strict}

-- Each bound u of s bounds s: the bound of s and u is u
abbrev pub UpperAt : ValidationMode → Ty → Type 0
UpperAt m s = (t u : Ty) → lub m s t ≡ Some u → lub m s u ≡ Some u

some_is : (a b : Ty) → ◌≡◌ {A = Option Ty} (Some a) (Some b) → a ≡ b
some_is a b e = cc

no_some : {A : Type 0} (a : A) → ◌≡◌ {A = Option A} None (Some a) → ⊥
no_some a e = cc

-- A bound known to be v bounds s if v does
at_bound : (m : ValidationMode) (s v u : Ty) → ◌≡◌ {A = Option Ty} (Some v) (Some u) → lub m s v ≡ Some v → lub m s u ≡ Some u
at_bound m s v u e f = subst (λ w. lub m s w ≡ Some w) (some_is v u e) f

bools_upper : (m : ValidationMode) (j k : BoolType) (u : Ty) → lub m (TBool j) (TBool k) ≡ Some u → lub m (TBool j) u ≡ Some u
bools_upper m AnyBool AnyBool u e = at_bound m (TBool AnyBool) (TBool AnyBool) u e refl
bools_upper m AnyBool True u e = at_bound m (TBool AnyBool) (TBool AnyBool) u e refl
bools_upper m AnyBool False u e = at_bound m (TBool AnyBool) (TBool AnyBool) u e refl
bools_upper m True AnyBool u e = at_bound m (TBool True) (TBool AnyBool) u e refl
bools_upper m True True u e = at_bound m (TBool True) (TBool True) u e refl
bools_upper m True False u e = at_bound m (TBool True) (TBool AnyBool) u e refl
bools_upper m False AnyBool u e = at_bound m (TBool False) (TBool AnyBool) u e refl
bools_upper m False True u e = at_bound m (TBool False) (TBool AnyBool) u e refl
bools_upper m False False u e = at_bound m (TBool False) (TBool False) u e refl

-- A conditional bound is s itself or none
if_some : (b : Bool) (s u : Ty) → (if b then Some s else None) ≡ Some u → s ≡ u
if_some true s u e = some_is s u e
if_some false s u e = absurd (no_some u e)

self_bound : (m : ValidationMode) (s u : Ty) → s ≡ u → lub m s u ≡ Some u
self_bound m s u e = subst (λ v. lub m s v ≡ Some v) e (lub_same m s)

sets_upper : (m : ValidationMode) (s t u : Ty) → UpperAt m s → (o : Option Ty) → lub m s t ≡ o
    → option_map TSet o ≡ Some u → lub m (TSet s) u ≡ Some u
sets_upper m s t u h None f e = absurd (no_some u e)
sets_upper m s t u h (Some v) f e = at_bound m (TSet s) (TSet v) u e (set_is m s v ∙ ap (option_map TSet) (h t v f))

entities_upper : (m : ValidationMode) (ps qs : List Path) (u : Ty) → paths_ascending ps ≡ true
    → lub m (TEntity ps) (TEntity qs) ≡ Some u → lub m (TEntity ps) u ≡ Some u
entities_upper m ps qs u a e = by (is_strict m) refl
  where
    by : (c : Bool) → is_strict m ≡ c → lub m (TEntity ps) u ≡ Some u
    by true w = self_bound m (TEntity ps) u (if_some (pointwise path_eq ps qs) (TEntity ps) u (sym (entity_strict m ps qs w) ∙ e))
    by false w =
        at_bound m (TEntity ps) (TEntity (union ps qs)) u (sym (entity_wide m ps qs w a) ∙ e)
        (entity_wide m ps (union ps qs) w a ∙ ap (λ rs. Some (TEntity rs)) (union_absorbs ps qs a))

-- ---- records in the wide modes
found_again : (m : ValidationMode) (o p : Option (Ty × Bool)) → ((a : Ty × Bool) → o ≡ Some a → UpperAt m a.0)
    → both_found m o (both_found m o p) ≡ both_found m o p
found_again m None p h = refl
found_again m (Some a) None h = refl
found_again m (Some a) (Some b) h = by (lub m a.0 b.0) refl
  where
    twice : (x y : Bool) → (x && (x && y)) ≡ (x && y)
    twice true y = refl
    twice false y = refl

    by : (v : Option Ty) → lub m a.0 b.0 ≡ v → both_found m (Some a) (option_map (λ u. (u, a.1 && b.1)) v)
        ≡ option_map (λ u. (u, a.1 && b.1)) v
    by None e = refl
    by (Some u) e = ap (option_map (λ w. (w, a.1 && (a.1 && b.1)))) (h a refl b.0 u e) ∙ ap (λ r. Some (u, r)) (twice a.1 b.1)

common_again : (m : ValidationMode) (xs ys : Attrs) → AllTypes (UpperAt m) xs → names_ascend xs ≡ true
    → common_attrs m xs (common_attrs m xs ys) ≡ common_attrs m xs ys
common_again m xs ys h a =
    same_look_ups (common_attrs m xs (common_attrs m xs ys)) (common_attrs m xs ys)
    (common_ascends m xs (common_attrs m xs ys) a) (common_ascends m xs ys a)
    (λ k. find_common m k xs (common_attrs m xs ys) a
    ∙ ap (both_found m (find_attr k xs)) (find_common m k xs ys a)
    ∙ found_again m (find_attr k xs) (find_attr k ys) (found_type (UpperAt m) k xs h)
    ∙ sym (find_common m k xs ys a))

open_again : (o p a b c : Bool) → c ≡ true → (o || (o || p || not (a && b)) || not (a && c)) ≡ (o || p || not (a && b))
open_again true p a b c e = refl
open_again false true a b c e = refl
open_again false false true true c e = ap not e
open_again false false true false c e = refl
open_again false false false b c e = refl

wide_again : (xs ys zs : Attrs) (o p q : Bool)
    → q ≡ (o || p || not (nat_eq (attr_count zs) (attr_count xs) && nat_eq (attr_count zs) (attr_count ys)))
    → wide_lub xs o zs q zs ≡ TRecord zs q
wide_again xs ys zs o p q e =
    ap (TRecord zs)
    (ap (λ q. o || q || not (nat_eq (attr_count zs) (attr_count xs) && nat_eq (attr_count zs) (attr_count zs))) e
    ∙ open_again o p (nat_eq (attr_count zs) (attr_count xs)) (nat_eq (attr_count zs) (attr_count ys))
    (nat_eq (attr_count zs) (attr_count zs)) (eq-eqb (attr_count zs) (attr_count zs) refl)
    ∙ sym e)

-- ---- records in Strict
pub both_cons : (m : ValidationMode) (k l : Text) (s t : Ty) (r q : Bool) (xs ys : Attrs)
    → (text_eq k l && mark_eq r q) ≡ true → both_attrs m (attr k s r xs) (attr l t q ys)
    ≡ with_both k (lub m s t) r (both_attrs m xs ys)
both_cons m k l s t r q xs ys e = ap (λ b. if b then with_both k (lub m s t) r (both_attrs m xs ys) else None) e

pub both_differ : (m : ValidationMode) (k l : Text) (s t : Ty) (r q : Bool) (xs ys : Attrs)
    → (text_eq k l && mark_eq r q) ≡ false → both_attrs m (attr k s r xs) (attr l t q ys) ≡ None
both_differ m k l s t r q xs ys e = ap (λ b. if b then with_both k (lub m s t) r (both_attrs m xs ys) else None) e

attrs_is : (a b : Attrs) → ◌≡◌ {A = Option Attrs} (Some a) (Some b) → a ≡ b
attrs_is a b e = cc

both_upper : (m : ValidationMode) (xs ys zs : Attrs) → AllTypes (UpperAt m) xs → both_attrs m xs ys ≡ Some zs → both_attrs m xs zs ≡ Some zs
both_upper m no_attrs no_attrs zs h e = subst (λ w. both_attrs m no_attrs w ≡ Some w) (attrs_is no_attrs zs e) refl
both_upper m no_attrs (attr l t q ys) zs h e = absurd (no_some zs e)
both_upper m (attr k s r xs) no_attrs zs h e = absurd (no_some zs e)
both_upper m (attr k s r xs) (attr l t q ys) zs h e = by (λ ws. both_upper m xs ys ws h.1) (text_eq k l && mark_eq r q) refl
  where
    parts : ((ws : Attrs) → both_attrs m xs ys ≡ Some ws → both_attrs m xs ws ≡ Some ws) → (v : Option Ty)
        (o : Option Attrs) → lub m s t ≡ v → both_attrs m xs ys ≡ o → with_both k v r o ≡ Some zs
        → both_attrs m (attr k s r xs) zs ≡ Some zs
    parts others None o f g d = absurd (no_some zs d)
    parts others (Some u) None f g d = absurd (no_some zs d)
    parts others (Some u) (Some ws) f g d =
        subst (λ w. both_attrs m (attr k s r xs) w ≡ Some w) (attrs_is (attr k u r ws) zs d)
        (both_cons m k k s u r r xs ws (and_both (text_eq k k) (mark_eq r r) (text_itself k) (mark_itself r))
        ∙ (λ i. with_both k (h.0 t u f i) r (others ws g i)))

    by : ((ws : Attrs) → both_attrs m xs ys ≡ Some ws → both_attrs m xs ws ≡ Some ws) → (c : Bool)
        → (text_eq k l && mark_eq r q) ≡ c → both_attrs m (attr k s r xs) zs ≡ Some zs
    by others true c = parts others (lub m s t) (both_attrs m xs ys) refl refl (sym (both_cons m k l s t r q xs ys c) ∙ e)
    by others false c = absurd (no_some zs (sym (both_differ m k l s t r q xs ys c) ∙ e))

-- Two closed records: a bound of their attributes is a bound of the records
pub closed_records : (m : ValidationMode) (xs zs : Attrs) → is_strict m ≡ true → both_attrs m xs zs ≡ Some zs
    → lub m (TRecord xs false) (TRecord zs false) ≡ Some (TRecord zs false)
closed_records m xs zs w b = by (ty_eq (TRecord xs false) (TRecord zs false)) refl
  where
    by : (c : Bool) → ty_eq (TRecord xs false) (TRecord zs false) ≡ c → lub m (TRecord xs false) (TRecord zs false)
        ≡ Some (TRecord zs false)
    by true e = lub_equal m (TRecord xs false) (TRecord zs false) e
    by false e =
        record_strict m xs zs false false w
        ∙ ap (λ b. if b then Some (TRecord xs false) else closed_lub false false (both_attrs m xs zs)) e
        ∙ ap (option_map (λ ws. TRecord ws false)) b

strict_upper : (m : ValidationMode) (xs ys : Attrs) (o p : Bool) (u : Ty) → is_strict m ≡ true
    → AllTypes (UpperAt m) xs → (c : Bool) (b : Option Attrs) → both_attrs m xs ys ≡ b
    → (if c then Some (TRecord xs o) else closed_lub o p b) ≡ Some u → lub m (TRecord xs o) u ≡ Some u
strict_upper m xs ys o p u w h true b f e = self_bound m (TRecord xs o) u (some_is (TRecord xs o) u e)
strict_upper m xs ys true p u w h false b f e = absurd (no_some u e)
strict_upper m xs ys false true u w h false b f e = absurd (no_some u e)
strict_upper m xs ys false false u w h false None f e = absurd (no_some u e)
strict_upper m xs ys false false u w h false (Some zs) f e =
    at_bound m (TRecord xs false) (TRecord zs false) u e (closed_records m xs zs w (both_upper m xs ys zs h f))

records_upper : (m : ValidationMode) (xs ys : Attrs) (o p : Bool) (u : Ty) → AllTypes (UpperAt m) xs
    → names_ascend xs ≡ true → lub m (TRecord xs o) (TRecord ys p) ≡ Some u → lub m (TRecord xs o) u ≡ Some u
records_upper m xs ys o p u h a e = by (is_strict m) refl
  where
    by : (c : Bool) → is_strict m ≡ c → lub m (TRecord xs o) u ≡ Some u
    by true w =
        strict_upper m xs ys o p u w h (ty_eq (TRecord xs o) (TRecord ys p)) (both_attrs m xs ys) refl
        (sym (record_strict m xs ys o p w) ∙ e)
    by false w =
        let zs = common_attrs m xs ys in
        let q = o || p || not (nat_eq (attr_count (common_attrs m xs ys)) (attr_count xs)
        && nat_eq (attr_count (common_attrs m xs ys)) (attr_count ys)) in
        at_bound m (TRecord xs o) (TRecord zs q) u (sym (record_wide m xs ys o p w a) ∙ e)
        (record_wide m xs zs o q w a ∙ ap Some (ap (wide_lub xs o zs q) (common_again m xs ys h a) ∙ wide_again xs ys zs o p q refl))

-- ---- all types
mutual
  pub upper : (m : ValidationMode) (s : Ty) → is_well_formed s ≡ true → UpperAt m s
  upper m TNever v t u e = never_left m u
  upper m s v TNever u e = self_bound m s u (some_is s u (sym (never_right m s) ∙ e))
  upper m (TBool j) v (TBool k) u e = bools_upper m j k u e
  upper m TLong v TLong u e = at_bound m TLong TLong u e refl
  upper m TString v TString u e = at_bound m TString TString u e refl
  upper m (TSet s) v (TSet t) u e = sets_upper m s t u (upper m s v) (lub m s t) refl (sym (set_is m s t) ∙ e)
  upper m (TSet s) v TAnySet u e = at_bound m (TSet s) TAnySet u e refl
  upper m TAnySet v (TSet t) u e = at_bound m TAnySet TAnySet u e refl
  upper m TAnySet v TAnySet u e = at_bound m TAnySet TAnySet u e refl
  upper m (TRecord xs o) v (TRecord ys p) u e =
      records_upper m xs ys o p u (all_upper m xs (and_right (names_ascend xs) (are_well_formed xs) v))
      (and_left (names_ascend xs) (are_well_formed xs) v) e
  upper m (TEntity ps) v (TEntity qs) u e = entities_upper m ps qs u (and_right (has_members ps) (paths_ascending ps) v) e
  upper m (TEntity ps) v TAnyEntity u e = at_bound m (TEntity ps) TAnyEntity u e refl
  upper m TAnyEntity v (TEntity qs) u e = at_bound m TAnyEntity TAnyEntity u e refl
  upper m TAnyEntity v TAnyEntity u e = at_bound m TAnyEntity TAnyEntity u e refl
  upper m (TExtension p) v (TExtension q) u e = self_bound m (TExtension p) u (if_some (path_eq p q) (TExtension p) u e)
  upper m s v t u e = absurd (no_some u e)

  pub all_upper : (m : ValidationMode) (xs : Attrs) → are_well_formed xs ≡ true → AllTypes (UpperAt m) xs
  all_upper m no_attrs w = tt
  all_upper m (attr k t r xs) w = (
    upper m t (and_left (is_well_formed t) (are_well_formed xs) w),
    all_upper m xs (and_right (is_well_formed t) (are_well_formed xs) w),
  )
