-- The bound of well-formed types is symmetric.
use Rattle.std.proofs.Common.{◌≡◌, refl, sym, ap, ◌∙◌, subst, Bool, true, false, ◌&&◌, ◌||◌, not, nat_eq, List, Option, Some, None}
use Rattle.std.proofs.Common.{option_map, if◌then◌else◌}
use Rattle.std.specs.Bool.{one_answer}
use Rattle.cedar_types.specs.declared.base.types.BoolType.{BoolType}
use Rattle.cedar_types.specs.declared.base.types.BoolType.TheVariants.{AnyBool, True, False}
use Rattle.cedar_types.specs.declared.base.types.ValidationMode.{ValidationMode}
use Rattle.cedar_types.specs.Names.{Text, Path, text_eq, path_eq}
use Rattle.cedar_types.specs.Names.Ascending.{has_members, paths_ascending}
use Rattle.cedar_types.specs.Types.{Ty, TNever, TBool, TLong, TString, TSet, TAnySet, TRecord, TEntity, TAnyEntity, TExtension, Attrs}
use Rattle.cedar_types.specs.Types.{no_attrs, attr, is_well_formed, are_well_formed}
use Rattle.cedar_types.specs.Types.Bounds.{attr_count, mark_eq, ty_eq, find_attr, is_strict, lub, closed_lub, wide_lub, with_both}
use Rattle.cedar_types.specs.Types.Bounds.{both_attrs, common_attrs}
use Rattle.cedar_types.proofs.Comparisons.SameTypes.{and_left, and_right, ty_to, ty_decides, text_decides, path_decides, mark_to}
use Rattle.cedar_types.proofs.Names.Unions.{union_symmetric}
use Rattle.cedar_types.proofs.Attributes.FindAttrs.{text_to, names_ascend, same_look_ups, AllTypes, found_type, all_well_formed}
use Rattle.cedar_types.proofs.Bounds.Steps.{never_left, never_right, set_is, entity_wide, entity_strict, both_found, find_common}
use Rattle.cedar_types.proofs.Bounds.Steps.{common_ascends, record_wide, record_strict}

-- The bounds of s with well-formed types are symmetric
abbrev pub SymmetricAt : ValidationMode → Ty → Type 0
SymmetricAt m s = (t : Ty) → is_well_formed t ≡ true → lub m s t ≡ lub m t s

equal_turned : (m : ValidationMode) (s t : Ty) → ty_eq s t ≡ true → lub m s t ≡ lub m t s
equal_turned m s t e = subst (λ u. lub m s u ≡ lub m u s) (ty_to s t e) refl

ty_eq_turned : (s t : Ty) → ty_eq s t ≡ ty_eq t s
ty_eq_turned s t = one_answer (ty_eq s t) (ty_eq t s) (ty_decides s t) (λ e. sym ((ty_decides t s).0 e), λ e. (ty_decides t s).1 (sym e))

text_eq_turned : (k l : Text) → text_eq k l ≡ text_eq l k
text_eq_turned k l =
    one_answer (text_eq k l) (text_eq l k) (text_decides k l)
    (λ e. sym ((text_decides l k).0 e), λ e. (text_decides l k).1 (sym e))

path_eq_turned : (p q : Path) → path_eq p q ≡ path_eq q p
path_eq_turned p q =
    one_answer (path_eq p q) (path_eq q p) (path_decides p q)
    (λ e. sym ((path_decides q p).0 e), λ e. (path_decides q p).1 (sym e))

mark_eq_turned : (a b : Bool) → mark_eq a b ≡ mark_eq b a
mark_eq_turned true true = refl
mark_eq_turned true false = refl
mark_eq_turned false true = refl
mark_eq_turned false false = refl

bools_turned : (m : ValidationMode) (j k : BoolType) → lub m (TBool j) (TBool k) ≡ lub m (TBool k) (TBool j)
bools_turned m AnyBool AnyBool = refl
bools_turned m AnyBool True = refl
bools_turned m AnyBool False = refl
bools_turned m True AnyBool = refl
bools_turned m True True = refl
bools_turned m True False = refl
bools_turned m False AnyBool = refl
bools_turned m False True = refl
bools_turned m False False = refl

extensions_turned : (m : ValidationMode) (p q : Path) → lub m (TExtension p) (TExtension q) ≡ lub m (TExtension q) (TExtension p)
extensions_turned m p q = by (path_eq p q) refl
  where
    by : (b : Bool) → path_eq p q ≡ b → lub m (TExtension p) (TExtension q) ≡ lub m (TExtension q) (TExtension p)
    by true e = equal_turned m (TExtension p) (TExtension q) e
    by false e =
        ap (λ b. if b then Some (TExtension p) else None) e
        ∙ ap (λ b. if b then Some (TExtension q) else None) (sym (sym (path_eq_turned p q) ∙ e))

entities_turned : (m : ValidationMode) (ps qs : List Path) → paths_ascending ps ≡ true → paths_ascending qs ≡ true
    → lub m (TEntity ps) (TEntity qs) ≡ lub m (TEntity qs) (TEntity ps)
entities_turned m ps qs a b = by (is_strict m) refl
  where
    strict : is_strict m ≡ true → (c : Bool) → ty_eq (TEntity ps) (TEntity qs) ≡ c
        → lub m (TEntity ps) (TEntity qs) ≡ lub m (TEntity qs) (TEntity ps)
    strict w true e = equal_turned m (TEntity ps) (TEntity qs) e
    strict w false e =
        entity_strict m ps qs w
        ∙ ap (λ b. if b then Some (TEntity ps) else None) e
        ∙ ap (λ b. if b then Some (TEntity qs) else None) (sym (sym (ty_eq_turned (TEntity ps) (TEntity qs)) ∙ e))
        ∙ sym (entity_strict m qs ps w)

    by : (c : Bool) → is_strict m ≡ c → lub m (TEntity ps) (TEntity qs) ≡ lub m (TEntity qs) (TEntity ps)
    by true w = strict w (ty_eq (TEntity ps) (TEntity qs)) refl
    by false w = entity_wide m ps qs w a ∙ ap (λ rs. Some (TEntity rs)) (union_symmetric ps qs a b) ∙ sym (entity_wide m qs ps w b)

-- ---- records in the wide modes
and_turned : (a b : Bool) → (a && b) ≡ (b && a)
and_turned true true = refl
and_turned true false = refl
and_turned false true = refl
and_turned false false = refl

found_turned : (m : ValidationMode) (o p : Option (Ty × Bool))
    → ((a b : Ty × Bool) → o ≡ Some a → p ≡ Some b → lub m a.0 b.0 ≡ lub m b.0 a.0)
    → both_found m o p ≡ both_found m p o
found_turned m None None h = refl
found_turned m None (Some b) h = refl
found_turned m (Some a) None h = refl
found_turned m (Some a) (Some b) h = λ i. option_map (λ u. (u, and_turned a.1 b.1 i)) (h a b refl refl i)

common_turned : (m : ValidationMode) (xs ys : Attrs) → AllTypes (SymmetricAt m) xs → names_ascend xs ≡ true
    → names_ascend ys ≡ true → are_well_formed ys ≡ true → common_attrs m xs ys ≡ common_attrs m ys xs
common_turned m xs ys h a b w =
    same_look_ups (common_attrs m xs ys) (common_attrs m ys xs) (common_ascends m xs ys a) (common_ascends m ys xs b)
    (λ k. find_common m k xs ys a
    ∙ found_turned m (find_attr k xs) (find_attr k ys)
    (λ c d e f. found_type (SymmetricAt m) k xs h c e d.0
    (found_type (λ t. is_well_formed t ≡ true) k ys (all_well_formed ys w) d f))
    ∙ sym (find_common m k ys xs b))

open_turned : (o p a b : Bool) → (o || p || not (a && b)) ≡ (p || o || not (b && a))
open_turned true true a b = refl
open_turned true false a b = refl
open_turned false true a b = refl
open_turned false false a b = ap not (and_turned a b)

wide_turned : (xs ys zs : Attrs) (o p : Bool) → wide_lub xs o ys p zs ≡ wide_lub ys p xs o zs
wide_turned xs ys zs o p =
    ap (TRecord zs) (open_turned o p (nat_eq (attr_count zs) (attr_count xs))
    (nat_eq (attr_count zs) (attr_count ys)))

-- ---- records in Strict
both_turned : (m : ValidationMode) (xs ys : Attrs) → AllTypes (SymmetricAt m) xs → are_well_formed ys ≡ true
    → both_attrs m xs ys ≡ both_attrs m ys xs
both_turned m no_attrs no_attrs h w = refl
both_turned m no_attrs (attr l t q ys) h w = refl
both_turned m (attr k s r xs) no_attrs h w = refl
both_turned m (attr k s r xs) (attr l t q ys) h w =
    by (both_turned m xs ys h.1 (and_right (is_well_formed t) (are_well_formed ys) w))
    (text_eq k l && mark_eq r q) refl
  where
    turned : (text_eq k l && mark_eq r q) ≡ (text_eq l k && mark_eq q r)
    turned = λ i. text_eq_turned k l i && mark_eq_turned r q i

    by : both_attrs m xs ys ≡ both_attrs m ys xs → (c : Bool) → (text_eq k l && mark_eq r q) ≡ c
        → both_attrs m (attr k s r xs) (attr l t q ys) ≡ both_attrs m (attr l t q ys) (attr k s r xs)
    by others true e =
        ap (λ b. if b then with_both k (lub m s t) r (both_attrs m xs ys) else None) e
        ∙ (λ i. with_both (text_to k l (and_left (text_eq k l) (mark_eq r q) e) i)
        (h.0 t (and_left (is_well_formed t) (are_well_formed ys) w) i)
        (mark_to r q (and_right (text_eq k l) (mark_eq r q) e) i) (others i))
        ∙ ap (λ b. if b then with_both l (lub m t s) q (both_attrs m ys xs) else None) (sym (sym turned ∙ e))
    by others false e =
        ap (λ b. if b then with_both k (lub m s t) r (both_attrs m xs ys) else None) e
        ∙ ap (λ b. if b then with_both l (lub m t s) q (both_attrs m ys xs) else None) (sym (sym turned ∙ e))

or_turned : (a b : Bool) → (a || b) ≡ (b || a)
or_turned true true = refl
or_turned true false = refl
or_turned false true = refl
or_turned false false = refl

records_turned : (m : ValidationMode) (xs ys : Attrs) (o p : Bool) → AllTypes (SymmetricAt m) xs
    → names_ascend xs ≡ true → names_ascend ys ≡ true → are_well_formed ys ≡ true
    → lub m (TRecord xs o) (TRecord ys p) ≡ lub m (TRecord ys p) (TRecord xs o)
records_turned m xs ys o p h a b w = by (is_strict m) refl
  where
    strict : is_strict m ≡ true → (c : Bool) → ty_eq (TRecord xs o) (TRecord ys p) ≡ c
        → lub m (TRecord xs o) (TRecord ys p) ≡ lub m (TRecord ys p) (TRecord xs o)
    strict v true e = equal_turned m (TRecord xs o) (TRecord ys p) e
    strict v false e =
        record_strict m xs ys o p v
        ∙ ap (λ b. if b then Some (TRecord xs o) else closed_lub o p (both_attrs m xs ys)) e
        ∙ (λ i. if or_turned o p i then None else option_map (λ zs. TRecord zs false) (both_turned m xs ys h w i))
        ∙ ap (λ b. if b then Some (TRecord ys p) else closed_lub p o (both_attrs m ys xs))
        (sym (sym (ty_eq_turned (TRecord xs o) (TRecord ys p)) ∙ e))
        ∙ sym (record_strict m ys xs p o v)

    by : (c : Bool) → is_strict m ≡ c → lub m (TRecord xs o) (TRecord ys p) ≡ lub m (TRecord ys p) (TRecord xs o)
    by true v = strict v (ty_eq (TRecord xs o) (TRecord ys p)) refl
    by false v =
        record_wide m xs ys o p v a
        ∙ ap Some (ap (wide_lub xs o ys p) (common_turned m xs ys h a b w) ∙ wide_turned xs ys (common_attrs m ys xs) o p)
        ∙ sym (record_wide m ys xs p o v b)

-- ---- all types
mutual
  pub symmetric : (m : ValidationMode) (s : Ty) → is_well_formed s ≡ true → SymmetricAt m s
  symmetric m (TBool j) v (TBool k) w = bools_turned m j k
  symmetric m (TSet s) v (TSet t) w = set_is m s t ∙ ap (option_map TSet) (symmetric m s v t w) ∙ sym (set_is m t s)
  symmetric m (TRecord xs o) v (TRecord ys p) w =
      records_turned m xs ys o p (all_symmetric m xs (and_right (names_ascend xs) (are_well_formed xs) v))
      (and_left (names_ascend xs) (are_well_formed xs) v) (and_left (names_ascend ys) (are_well_formed ys) w)
      (and_right (names_ascend ys) (are_well_formed ys) w)
  symmetric m (TEntity ps) v (TEntity qs) w =
      entities_turned m ps qs (and_right (has_members ps) (paths_ascending ps) v)
      (and_right (has_members qs) (paths_ascending qs) w)
  symmetric m (TExtension p) v (TExtension q) w = extensions_turned m p q
  symmetric m TNever v t w = never_left m t ∙ sym (never_right m t)
  symmetric m TLong v TLong w = refl
  symmetric m TString v TString w = refl
  symmetric m TAnySet v TAnySet w = refl
  symmetric m TAnyEntity v TAnyEntity w = refl
  symmetric m s v t w = refl

  pub all_symmetric : (m : ValidationMode) (xs : Attrs) → are_well_formed xs ≡ true → AllTypes (SymmetricAt m) xs
  all_symmetric m no_attrs w = tt
  all_symmetric m (attr k t r xs) w = (
    symmetric m t (and_left (is_well_formed t) (are_well_formed xs) w),
    all_symmetric m xs (and_right (is_well_formed t) (are_well_formed xs) w),
  )
