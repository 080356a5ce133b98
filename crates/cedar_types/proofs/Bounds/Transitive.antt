-- Subtyping of well-formed types is transitive.
use Rattle.std.proofs.Common.{◌≡◌, ◌⊎◌, inl, inr, refl, sym, ap, ◌∙◌, subst, ℕ, Bool, true, false, ◌&&◌, ◌||◌, not, nat_eq, List}
use Rattle.std.proofs.Common.{true≢false, Option, Some, None, option_map, if◌then◌else◌}
use Rattle.std.specs.Cmp.Lexicographic.{pointwise}
use borrow.Author.Tests.{eqb-true}
use Rattle.cedar_types.specs.declared.base.types.BoolType.{BoolType}
use Rattle.cedar_types.specs.declared.base.types.BoolType.TheVariants.{AnyBool, True, False}
use Rattle.cedar_types.specs.declared.base.types.ValidationMode.{ValidationMode}
use Rattle.cedar_types.specs.Names.{Text, Path, text_eq, path_eq}
use Rattle.cedar_types.specs.Names.Ascending.{has_members, paths_ascending}
use Rattle.cedar_types.specs.Types.{Ty, TNever, TBool, TLong, TString, TSet, TAnySet, TRecord, TEntity, TAnyEntity, TExtension, Attrs}
use Rattle.cedar_types.specs.Types.{no_attrs, attr, is_well_formed, are_well_formed}
use Rattle.cedar_types.specs.Types.Bounds.{attr_count, mark_eq, attrs_eq, find_attr, union, is_strict, lub, closed_lub, wide_lub, with_both}
use Rattle.cedar_types.specs.Types.Bounds.{both_attrs, common_attrs}
use Rattle.cedar_types.proofs.Comparisons.SameTypes.{and_left, and_right, and_both, text_decides, mark_to, mark_itself}
use Rattle.cedar_types.proofs.Names.Unions.{union_chain}
use Rattle.cedar_types.proofs.Attributes.FindAttrs.{text_to, names_ascend, same_look_ups, AllTypes, found_type, all_well_formed}
use Rattle.cedar_types.proofs.Bounds.Steps.{never_left, never_right, set_is, entity_wide, entity_strict, both_found, find_common}
use Rattle.cedar_types.proofs.Bounds.Steps.{common_ascends, record_wide, record_strict}
use Rattle.cedar_types.proofs.Bounds.Upper.{both_cons, both_differ, closed_records}

-- A supertype of a supertype of s is a supertype of s
abbrev pub TransitiveAt : ValidationMode → Ty → Type 0
TransitiveAt m s =
    (t u : Ty) → is_well_formed t ≡ true → is_well_formed u ≡ true → lub m s t ≡ Some t
    → lub m t u ≡ Some u → lub m s u ≡ Some u

some_is : (a b : Ty) → ◌≡◌ {A = Option Ty} (Some a) (Some b) → a ≡ b
some_is a b e = cc

no_some : {A : Type 0} (a : A) → ◌≡◌ {A = Option A} None (Some a) → ⊥
no_some a e = cc

-- A supertype of t is a supertype of s if s is t
along : (m : ValidationMode) (s t u : Ty) → s ≡ t → lub m t u ≡ Some u → lub m s u ≡ Some u
along m s t u e f = subst (λ v. lub m v u ≡ Some u) (sym e) f

if_some : (b : Bool) (s u : Ty) → (if b then Some s else None) ≡ Some u → s ≡ u
if_some true s u e = some_is s u e
if_some false s u e = absurd (no_some u e)

-- ---- Bool
any_bool_above : (m : ValidationMode) (j k : BoolType) → lub m (TBool AnyBool) (TBool k) ≡ Some (TBool k)
    → lub m (TBool j) (TBool k) ≡ Some (TBool k)
any_bool_above m AnyBool AnyBool e = refl
any_bool_above m True AnyBool e = refl
any_bool_above m False AnyBool e = refl
any_bool_above m j True e = absurd (cc)
any_bool_above m j False e = absurd (cc)

bools_chain : (m : ValidationMode) (j k l : BoolType) → lub m (TBool j) (TBool k) ≡ Some (TBool k)
    → lub m (TBool k) (TBool l) ≡ Some (TBool l) → lub m (TBool j) (TBool l) ≡ Some (TBool l)
bools_chain m j AnyBool l e f = any_bool_above m j l f
bools_chain m True True l e f = f
bools_chain m False False l e f = f
bools_chain m AnyBool True l e f = absurd (cc)
bools_chain m AnyBool False l e f = absurd (cc)
bools_chain m True False l e f = absurd (cc)
bools_chain m False True l e f = absurd (cc)

-- ---- sets
set_inside : (t : Ty) (o : Option Ty) → option_map TSet o ≡ Some (TSet t) → o ≡ Some t
set_inside t None e = absurd (no_some (TSet t) e)
set_inside t (Some u) e = cc

sets_chain : (m : ValidationMode) (s t u : Ty) → TransitiveAt m s → is_well_formed t ≡ true
    → is_well_formed u ≡ true → lub m (TSet s) (TSet t) ≡ Some (TSet t) → lub m (TSet t) (TSet u) ≡ Some (TSet u)
    → lub m (TSet s) (TSet u) ≡ Some (TSet u)
sets_chain m s t u h v w e f =
    set_is m s u ∙ ap (option_map TSet) (h t u v w (set_inside t (lub m s t) (sym (set_is m s t) ∙ e))
    (set_inside u (lub m t u) (sym (set_is m t u) ∙ f)))

-- ---- sets of entity types
entity_inside : (ps qs : List Path) → ◌≡◌ {A = Option Ty} (Some (TEntity ps)) (Some (TEntity qs)) → ps ≡ qs
entity_inside ps qs e = cc

entities_chain : (m : ValidationMode) (ps qs rs : List Path) → paths_ascending ps ≡ true → paths_ascending qs ≡ true
    → paths_ascending rs ≡ true → lub m (TEntity ps) (TEntity qs) ≡ Some (TEntity qs)
    → lub m (TEntity qs) (TEntity rs) ≡ Some (TEntity rs) → lub m (TEntity ps) (TEntity rs) ≡ Some (TEntity rs)
entities_chain m ps qs rs a b c e f = by (is_strict m) refl
  where
    by : (d : Bool) → is_strict m ≡ d → lub m (TEntity ps) (TEntity rs) ≡ Some (TEntity rs)
    by true w =
        along m (TEntity ps) (TEntity qs) (TEntity rs)
        (if_some (pointwise path_eq ps qs) (TEntity ps) (TEntity qs) (sym (entity_strict m ps qs w) ∙ e)) f
    by false w =
        entity_wide m ps rs w a
        ∙ ap (λ xs. Some (TEntity xs))
        (union_chain ps qs rs a c (entity_inside (union ps qs) qs (sym (entity_wide m ps qs w a) ∙ e))
        (entity_inside (union qs rs) rs (sym (entity_wide m qs rs w b) ∙ f)))

-- ---- records in the wide modes
and_chain : (a b c : Bool) → (a && b) ≡ b → (b && c) ≡ c → (a && c) ≡ c
and_chain true b c e f = refl
and_chain false true c e f = absurd (true≢false (sym e))
and_chain false false c e f = f

found_inside : (v : Option Ty) (r : Bool) (b : Ty × Bool) → option_map (λ u. (u, r)) v ≡ Some b → (v ≡ Some b.0) × (r ≡ b.1)
found_inside None r b e = absurd (no_some b e)
found_inside (Some u) r b e = let f : (u, r) ≡ b = inside (u, r) b e in (ap (λ c. Some c.0) f, ap (λ c. c.1) f)
  where
    inside : (c d : Ty × Bool) → ◌≡◌ {A = Option (Ty × Bool)} (Some c) (Some d) → c ≡ d
    inside c d e = cc

found_chain : (m : ValidationMode) (o p q : Option (Ty × Bool))
    → ((a b c : Ty × Bool) → o ≡ Some a → p ≡ Some b → q ≡ Some c → lub m a.0 b.0 ≡ Some b.0
    → lub m b.0 c.0 ≡ Some c.0 → lub m a.0 c.0 ≡ Some c.0)
    → both_found m o p ≡ p → both_found m p q ≡ q → both_found m o q ≡ q
found_chain m None p None h e f = refl
found_chain m (Some a) p None h e f = refl
found_chain m o None (Some c) h e f = absurd (no_some c f)
found_chain m None (Some b) (Some c) h e f = absurd (no_some b e)
found_chain m (Some a) (Some b) (Some c) h e f =
    let g = found_inside (lub m a.0 b.0) (a.1 && b.1) b e in
    let j = found_inside (lub m b.0 c.0) (b.1 && c.1) c f in
    ap (option_map (λ u. (u, a.1 && c.1))) (h a b c refl refl refl g.0 j.0) ∙ ap (λ r. Some (c.0, r)) (and_chain a.1 b.1 c.1 g.1 j.1)

common_chain : (m : ValidationMode) (xs ys zs : Attrs) → AllTypes (TransitiveAt m) xs → names_ascend xs ≡ true
    → names_ascend ys ≡ true → names_ascend zs ≡ true → are_well_formed ys ≡ true → are_well_formed zs ≡ true
    → common_attrs m xs ys ≡ ys → common_attrs m ys zs ≡ zs → common_attrs m xs zs ≡ zs
common_chain m xs ys zs h a b c v w e f =
    same_look_ups (common_attrs m xs zs) zs (common_ascends m xs zs a) c
    (λ k. find_common m k xs zs a
    ∙ found_chain m (find_attr k xs) (find_attr k ys) (find_attr k zs)
    (λ d g j at_d at_g at_j. found_type (TransitiveAt m) k xs h d at_d g.0 j.0
    (found_type (λ t. is_well_formed t ≡ true) k ys (all_well_formed ys v) g at_g)
    (found_type (λ t. is_well_formed t ≡ true) k zs (all_well_formed zs w) j at_j))
    (sym (find_common m k xs ys a) ∙ ap (find_attr k) e)
    (sym (find_common m k ys zs b) ∙ ap (find_attr k) f))

not_false : (a b : Bool) → not (a && b) ≡ false → a ≡ true
not_false true b e = refl
not_false false b e = absurd (true≢false e)

open_chain : (o p q : Bool) (x y z : ℕ) → (o || p || not (nat_eq y x && nat_eq y y)) ≡ p
    → (p || q || not (nat_eq z y && nat_eq z z)) ≡ q → (o || q || not (nat_eq z x && nat_eq z z)) ≡ q
open_chain true p true x y z e f = refl
open_chain false p true x y z e f = refl
open_chain o true false x y z e f = absurd (true≢false f)
open_chain true false false x y z e f = absurd (true≢false e)
open_chain false false false x y z e f =
    let same = eqb-true z y (not_false (nat_eq z y) (nat_eq z z) f) in
    (λ i. not (nat_eq (same i) x && nat_eq (same i) (same i))) ∙ e

record_inside : (xs ys : Attrs) (o p : Bool) → ◌≡◌ {A = Option Ty} (Some (TRecord xs o)) (Some (TRecord ys p)) → (xs ≡ ys) × (o ≡ p)
record_inside xs ys o p e = (cc, cc)

-- A wide bound that equals the second record has its attributes and its mark
wide_inside : (m : ValidationMode) (xs ys : Attrs) (o p : Bool) → is_strict m ≡ false → names_ascend xs ≡ true
    → lub m (TRecord xs o) (TRecord ys p) ≡ Some (TRecord ys p)
    → (common_attrs m xs ys ≡ ys) × ((o || p || not (nat_eq (attr_count ys) (attr_count xs) && nat_eq (attr_count ys) (attr_count ys))) ≡ p)
wide_inside m xs ys o p w a e =
    let d = record_inside (common_attrs m xs ys) ys
    (o || p || not (nat_eq (attr_count (common_attrs m xs ys)) (attr_count xs)
    && nat_eq (attr_count (common_attrs m xs ys)) (attr_count ys))) p (sym (record_wide m xs ys o p w a) ∙ e) in
    (d.0, ap (λ zs. o || p || not (nat_eq (attr_count zs) (attr_count xs) && nat_eq (attr_count zs) (attr_count ys))) (sym d.0) ∙ d.1)

-- ---- records in Strict
-- The facts that hold if a bound of attributes in Strict is the second side
abbrev Parts : ValidationMode → Text → Ty → Bool → Attrs → Text → Ty → Bool → Attrs → Type 0
Parts m k s r xs l t q ys = (k ≡ l) × (r ≡ q) × (lub m s t ≡ Some t) × (both_attrs m xs ys ≡ Some ys)

attr_inside : (k l : Text) (s t : Ty) (r q : Bool) (xs ys : Attrs)
    → ◌≡◌ {A = Option Attrs} (Some (attr k s r xs)) (Some (attr l t q ys)) → (s ≡ t) × (xs ≡ ys)
attr_inside k l s t r q xs ys e = (cc, cc)

both_inside : (m : ValidationMode) (k l : Text) (s t : Ty) (r q : Bool) (xs ys : Attrs)
    → both_attrs m (attr k s r xs) (attr l t q ys) ≡ Some (attr l t q ys) → Parts m k s r xs l t q ys
both_inside m k l s t r q xs ys e = by (text_eq k l && mark_eq r q) refl
  where
    parts : (text_eq k l && mark_eq r q) ≡ true → (v : Option Ty) (o : Option Attrs) → lub m s t ≡ v
        → both_attrs m xs ys ≡ o → with_both k v r o ≡ Some (attr l t q ys) → Parts m k s r xs l t q ys
    parts c None o f g d = absurd (no_some (attr l t q ys) d)
    parts c (Some u) None f g d = absurd (no_some (attr l t q ys) d)
    parts c (Some u) (Some ws) f g d =
        let i = attr_inside k l u t r q ws ys d in (
          text_to k l (and_left (text_eq k l) (mark_eq r q) c),
          mark_to r q (and_right (text_eq k l) (mark_eq r q) c),
          f ∙ ap Some i.0,
          g ∙ ap Some i.1,
        )

    by : (c : Bool) → (text_eq k l && mark_eq r q) ≡ c → Parts m k s r xs l t q ys
    by true c = parts c (lub m s t) (both_attrs m xs ys) refl refl (sym (both_cons m k l s t r q xs ys c) ∙ e)
    by false c = absurd (no_some (attr l t q ys) (sym (both_differ m k l s t r q xs ys c) ∙ e))

same_key : (k j : Text) (r p : Bool) → k ≡ j → r ≡ p → (text_eq k j && mark_eq r p) ≡ true
same_key k j r p e f = and_both (text_eq k j) (mark_eq r p) ((text_decides k j).1 e) (subst (λ b. mark_eq r b ≡ true) f (mark_itself r))

both_chain : (m : ValidationMode) (xs ys zs : Attrs) → AllTypes (TransitiveAt m) xs → are_well_formed ys ≡ true
    → are_well_formed zs ≡ true → both_attrs m xs ys ≡ Some ys → both_attrs m ys zs ≡ Some zs
    → both_attrs m xs zs ≡ Some zs
both_chain m no_attrs no_attrs zs h v w e f = f
both_chain m no_attrs (attr l t q ys) zs h v w e f = absurd (no_some (attr l t q ys) e)
both_chain m (attr k s r xs) no_attrs zs h v w e f = absurd (no_some no_attrs e)
both_chain m (attr k s r xs) (attr l t q ys) no_attrs h v w e f = absurd (no_some no_attrs f)
both_chain m (attr k s r xs) (attr l t q ys) (attr j u p zs) h v w e f =
    let d = both_inside m k l s t r q xs ys e in
    let g = both_inside m l j t u q p ys zs f in
    let here = h.0 t u (and_left (is_well_formed t) (are_well_formed ys) v) (and_left (is_well_formed u) (are_well_formed zs) w) d.2 g.2 in
    let rest = both_chain m xs ys zs h.1 (and_right (is_well_formed t) (are_well_formed ys) v)
    (and_right (is_well_formed u) (are_well_formed zs) w) d.3 g.3 in
    let name = d.0 ∙ g.0 in
    let mark = d.1 ∙ g.1 in
    both_cons m k j s u r p xs zs (same_key k j r p name mark)
    ∙ (λ i. with_both (name i) (here i) (mark i) (rest i))

-- The two cases in which a bound of records in Strict is the second record
abbrev Closed : ValidationMode → Attrs → Bool → Attrs → Bool → Type 0
Closed m xs o ys p = (TRecord xs o ≡ TRecord ys p) ⊎ ((o ≡ false) × (p ≡ false) × (both_attrs m xs ys ≡ Some ys))

closed_inside : (m : ValidationMode) (xs ys : Attrs) (o p c : Bool) (b : Option Attrs) → both_attrs m xs ys ≡ b
    → (if c then Some (TRecord xs o) else closed_lub o p b) ≡ Some (TRecord ys p) → Closed m xs o ys p
closed_inside m xs ys o p true b f e = inl (some_is (TRecord xs o) (TRecord ys p) e)
closed_inside m xs ys true p false b f e = absurd (no_some (TRecord ys p) e)
closed_inside m xs ys false true false b f e = absurd (no_some (TRecord ys true) e)
closed_inside m xs ys false false false None f e = absurd (no_some (TRecord ys false) e)
closed_inside m xs ys false false false (Some zs) f e = inr (refl, refl, f ∙ ap Some (record_inside zs ys false false e).0)

strict_inside : (m : ValidationMode) (xs ys : Attrs) (o p : Bool) → is_strict m ≡ true
    → lub m (TRecord xs o) (TRecord ys p) ≡ Some (TRecord ys p) → Closed m xs o ys p
strict_inside m xs ys o p w e =
    closed_inside m xs ys o p (attrs_eq xs ys && mark_eq o p) (both_attrs m xs ys) refl
    (sym (record_strict m xs ys o p w) ∙ e)

strict_chain : (m : ValidationMode) (xs ys zs : Attrs) (o p q : Bool) → is_strict m ≡ true
    → AllTypes (TransitiveAt m) xs → are_well_formed ys ≡ true → are_well_formed zs ≡ true
    → Closed m xs o ys p → Closed m ys p zs q → lub m (TRecord xs o) (TRecord ys p) ≡ Some (TRecord ys p)
    → lub m (TRecord ys p) (TRecord zs q) ≡ Some (TRecord zs q)
    → lub m (TRecord xs o) (TRecord zs q) ≡ Some (TRecord zs q)
strict_chain m xs ys zs o p q s h v w (inl same) d e f = along m (TRecord xs o) (TRecord ys p) (TRecord zs q) same f
strict_chain m xs ys zs o p q s h v w (inr c) (inl same) e f = subst (λ t. lub m (TRecord xs o) t ≡ Some t) same e
strict_chain m xs ys zs o p q s h v w (inr c) (inr d) e f =
    subst (λ a. lub m (TRecord xs a) (TRecord zs q) ≡ Some (TRecord zs q)) (sym c.0)
    (subst (λ a. lub m (TRecord xs false) (TRecord zs a) ≡ Some (TRecord zs a)) (sym d.1)
    (closed_records m xs zs s (both_chain m xs ys zs h v w c.2 d.2)))

records_chain : (m : ValidationMode) (xs ys zs : Attrs) (o p q : Bool) → AllTypes (TransitiveAt m) xs
    → names_ascend xs ≡ true → names_ascend ys ≡ true → names_ascend zs ≡ true → are_well_formed ys ≡ true
    → are_well_formed zs ≡ true
    → lub m (TRecord xs o) (TRecord ys p) ≡ Some (TRecord ys p) → lub m (TRecord ys p) (TRecord zs q)
    ≡ Some (TRecord zs q) → lub m (TRecord xs o) (TRecord zs q) ≡ Some (TRecord zs q)
records_chain m xs ys zs o p q h a b c v w e f = by (is_strict m) refl
  where
    by : (d : Bool) → is_strict m ≡ d → lub m (TRecord xs o) (TRecord zs q) ≡ Some (TRecord zs q)
    by true s = strict_chain m xs ys zs o p q s h v w (strict_inside m xs ys o p s e) (strict_inside m ys zs p q s f) e f
    by false s =
        let d = wide_inside m xs ys o p s a e in
        let g = wide_inside m ys zs p q s b f in
        record_wide m xs zs o q s a
        ∙ ap Some (ap (wide_lub xs o zs q) (common_chain m xs ys zs h a b c v w d.0 g.0)
        ∙ ap (TRecord zs) (open_chain o p q (attr_count xs) (attr_count ys) (attr_count zs) d.1 g.1))

-- ---- all types
mutual
  pub transitive : (m : ValidationMode) (s : Ty) → is_well_formed s ≡ true → TransitiveAt m s
  transitive m TNever x t u v w e f = never_left m u
  transitive m s x TNever u v w e f = along m s TNever u (some_is s TNever (sym (never_right m s) ∙ e)) f
  transitive m (TBool j) x (TBool k) (TBool l) v w e f = bools_chain m j k l e f
  transitive m (TBool j) x (TBool k) u v w e f = absurd (cc)
  transitive m TLong x TLong u v w e f = f
  transitive m TString x TString u v w e f = f
  transitive m (TSet s) x (TSet t) (TSet u) v w e f = sets_chain m s t u (transitive m s x) v w e f
  transitive m (TSet s) x (TSet t) TAnySet v w e f = refl
  transitive m (TSet s) x (TSet t) u v w e f = absurd (cc)
  transitive m (TSet s) x TAnySet TAnySet v w e f = refl
  transitive m (TSet s) x TAnySet u v w e f = absurd (cc)
  transitive m TAnySet x (TSet t) u v w e f = absurd (cc)
  transitive m TAnySet x TAnySet u v w e f = f
  transitive m (TRecord xs o) x (TRecord ys p) (TRecord zs q) v w e f =
      records_chain m xs ys zs o p q (all_transitive m xs (and_right (names_ascend xs) (are_well_formed xs) x))
      (and_left (names_ascend xs) (are_well_formed xs) x) (and_left (names_ascend ys) (are_well_formed ys) v)
      (and_left (names_ascend zs) (are_well_formed zs) w)
      (and_right (names_ascend ys) (are_well_formed ys) v) (and_right (names_ascend zs) (are_well_formed zs) w) e f
  transitive m (TRecord xs o) x (TRecord ys p) u v w e f = absurd (cc)
  transitive m (TEntity ps) x (TEntity qs) (TEntity rs) v w e f =
      entities_chain m ps qs rs (and_right (has_members ps) (paths_ascending ps) x)
      (and_right (has_members qs) (paths_ascending qs) v) (and_right (has_members rs) (paths_ascending rs) w) e f
  transitive m (TEntity ps) x (TEntity qs) TAnyEntity v w e f = refl
  transitive m (TEntity ps) x (TEntity qs) u v w e f = absurd (cc)
  transitive m (TEntity ps) x TAnyEntity TAnyEntity v w e f = refl
  transitive m (TEntity ps) x TAnyEntity u v w e f = absurd (cc)
  transitive m TAnyEntity x (TEntity qs) u v w e f = absurd (cc)
  transitive m TAnyEntity x TAnyEntity u v w e f = f
  transitive m (TExtension a) x (TExtension b) u v w e f =
      along m (TExtension a) (TExtension b) u (if_some (path_eq a b) (TExtension a) (TExtension b) e) f
  transitive m s x t u v w e f = absurd (no_some t e)

  pub all_transitive : (m : ValidationMode) (xs : Attrs) → are_well_formed xs ≡ true → AllTypes (TransitiveAt m) xs
  all_transitive m no_attrs w = tt
  all_transitive m (attr k t r xs) w = (
    transitive m t (and_left (is_well_formed t) (are_well_formed xs) w),
    all_transitive m xs (and_right (is_well_formed t) (are_well_formed xs) w),
  )
