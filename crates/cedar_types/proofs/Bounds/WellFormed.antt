-- The bound of well-formed types is well-formed.
use Rattle.std.proofs.Common.{◌≡◌, refl, sym, ap, ◌∙◌, subst, Bool, true, false, ◌&&◌, List, [], ◌∷◌, true≢false, Option, Some, None}
use Rattle.std.proofs.Common.{option_map, if◌then◌else◌}
use Rattle.std.specs.Cmp.Lexicographic.{pointwise}
use Rattle.cedar_types.specs.declared.base.types.BoolType.{BoolType}
use Rattle.cedar_types.specs.declared.base.types.ValidationMode.{ValidationMode}
use Rattle.cedar_types.specs.Names.{Text, Path, text_eq, path_eq}
use Rattle.cedar_types.specs.Names.Ascending.{has_members, texts_ascending, paths_ascending}
use Rattle.cedar_types.specs.Types.{Ty, TNever, TBool, TLong, TString, TSet, TAnySet, TRecord, TEntity, TAnyEntity, TExtension, Attrs}
use Rattle.cedar_types.specs.Types.{no_attrs, attr, attr_names, is_well_formed, are_well_formed}
use Rattle.cedar_types.specs.Types.Bounds.{mark_eq, attrs_eq, find_attr, union, is_strict, lub, closed_lub, wide_lub, with_both, with_bound}
use Rattle.cedar_types.specs.Types.Bounds.{with_common, both_attrs, common_attrs}
use Rattle.cedar_types.proofs.Comparisons.SameTypes.{and_left, and_right, and_both}
use Rattle.cedar_types.proofs.Names.Unions.{union_ascends, union_not_empty, has_first}
use Rattle.cedar_types.proofs.Attributes.FindAttrs.{names_ascend, AllTypes, found_type, all_well_formed}
use Rattle.cedar_types.proofs.Bounds.Steps.{never_left, never_right, set_is, entity_wide, entity_strict, common_ascends, record_wide}
use Rattle.cedar_types.proofs.Bounds.Steps.{record_strict}
use Rattle.cedar_types.proofs.Bounds.Upper.{both_cons, both_differ}

-- The bounds of s with well-formed types are well-formed
abbrev pub KeepsForm : ValidationMode → Ty → Type 0
KeepsForm m s = (t u : Ty) → is_well_formed t ≡ true → lub m s t ≡ Some u → is_well_formed u ≡ true

no_some : {A : Type 0} (a : A) → ◌≡◌ {A = Option A} None (Some a) → ⊥
no_some a e = cc

some_is : {A : Type 0} (a b : A) → ◌≡◌ {A = Option A} (Some a) (Some b) → a ≡ b
some_is a b e = cc

-- A bound known to be v is well-formed if v is
at_bound : (v u : Ty) → is_well_formed v ≡ true → ◌≡◌ {A = Option Ty} (Some v) (Some u) → is_well_formed u ≡ true
at_bound v u w e = subst (λ t. is_well_formed t ≡ true) (some_is v u e) w

bools_keep : (b : Bool) (j k : BoolType) (u : Ty) → (if b then Some (TBool j) else Some (TBool k)) ≡ Some u → is_well_formed u ≡ true
bools_keep true j k u e = at_bound (TBool j) u refl e
bools_keep false j k u e = at_bound (TBool k) u refl e

if_some : (b : Bool) (s u : Ty) → is_well_formed s ≡ true → (if b then Some s else None) ≡ Some u → is_well_formed u ≡ true
if_some true s u w e = at_bound s u w e
if_some false s u w e = absurd (no_some u e)

sets_keep : (m : ValidationMode) (s t u : Ty) → KeepsForm m s → is_well_formed t ≡ true → (o : Option Ty)
    → lub m s t ≡ o → option_map TSet o ≡ Some u → is_well_formed u ≡ true
sets_keep m s t u h w None f e = absurd (no_some u e)
sets_keep m s t u h w (Some v) f e = at_bound (TSet v) u (h t v w f) e

not_empty : (ps : List Path) → (ps ≡ [] → ⊥) → has_members ps ≡ true
not_empty [] h = absurd (h refl)
not_empty (p ∷ ps) h = refl

union_has_members : (ps qs : List Path) → has_members ps ≡ true → has_members (union ps qs) ≡ true
union_has_members [] qs h = absurd (true≢false (sym h))
union_has_members (p ∷ ps) qs h = not_empty (union (p ∷ ps) qs) (union_not_empty p (p ∷ ps) qs (has_first p ps))

entities_keep : (m : ValidationMode) (ps qs : List Path) (u : Ty) → is_well_formed (TEntity ps) ≡ true
    → lub m (TEntity ps) (TEntity qs) ≡ Some u → is_well_formed u ≡ true
entities_keep m ps qs u v e = by (is_strict m) refl
  where
    ascends : paths_ascending ps ≡ true
    ascends = and_right (has_members ps) (paths_ascending ps) v

    by : (c : Bool) → is_strict m ≡ c → is_well_formed u ≡ true
    by true w = if_some (pointwise path_eq ps qs) (TEntity ps) u v (sym (entity_strict m ps qs w) ∙ e)
    by false w =
        at_bound (TEntity (union ps qs)) u (and_both (has_members (union ps qs)) (paths_ascending (union ps qs))
        (union_has_members ps qs (and_left (has_members ps) (paths_ascending ps) v)) (union_ascends ps qs ascends))
        (sym (entity_wide m ps qs w ascends) ∙ e)

-- ---- records
bound_keeps : (k : Text) (v : Option Ty) (r : Bool) (zs : Attrs) → ((u : Ty) → v ≡ Some u → is_well_formed u ≡ true)
    → are_well_formed zs ≡ true → are_well_formed (with_bound k v r zs) ≡ true
bound_keeps k None r zs h w = w
bound_keeps k (Some u) r zs h w = and_both (is_well_formed u) (are_well_formed zs) (h u refl) w

common_keeps : (m : ValidationMode) (xs ys : Attrs) → AllTypes (KeepsForm m) xs → are_well_formed ys ≡ true
    → are_well_formed (common_attrs m xs ys) ≡ true
common_keeps m no_attrs ys h w = refl
common_keeps m (attr k s r xs) ys h w = by (common_keeps m xs ys h.1 w) (find_attr k ys) refl
  where
    by : are_well_formed (common_attrs m xs ys) ≡ true → (o : Option (Ty × Bool)) → find_attr k ys ≡ o
        → are_well_formed (with_common k o (lub m s) r (common_attrs m xs ys)) ≡ true
    by others None f = others
    by others (Some a) f =
        bound_keeps k (lub m s a.0) (r && a.1) (common_attrs m xs ys)
        (λ u e. h.0 a.0 u (found_type (λ t. is_well_formed t ≡ true) k ys (all_well_formed ys w) a f) e) others

-- The bound of attributes in Strict has the names of the first side, and well-formed types
both_keeps : (m : ValidationMode) (xs ys zs : Attrs) → AllTypes (KeepsForm m) xs → are_well_formed ys ≡ true
    → both_attrs m xs ys ≡ Some zs → (attr_names zs ≡ attr_names xs) × (are_well_formed zs ≡ true)
both_keeps m no_attrs no_attrs zs h w e = let f = some_is no_attrs zs e in (ap attr_names (sym f), ap are_well_formed (sym f))
both_keeps m no_attrs (attr l t q ys) zs h w e = absurd (no_some zs e)
both_keeps m (attr k s r xs) no_attrs zs h w e = absurd (no_some zs e)
both_keeps m (attr k s r xs) (attr l t q ys) zs h w e =
    by (λ ws. both_keeps m xs ys ws h.1 (and_right (is_well_formed t) (are_well_formed ys) w))
    (text_eq k l && mark_eq r q) refl
  where
    Kept : Type 0
    Kept = (attr_names zs ≡ attr_names (attr k s r xs)) × (are_well_formed zs ≡ true)

    parts : ((ws : Attrs) → both_attrs m xs ys ≡ Some ws
        → (attr_names ws ≡ attr_names xs) × (are_well_formed ws ≡ true)) → (v : Option Ty) (o : Option Attrs)
        → lub m s t ≡ v → both_attrs m xs ys ≡ o → with_both k v r o ≡ Some zs
        → (attr_names zs ≡ attr_names (attr k s r xs)) × (are_well_formed zs ≡ true)
    parts others None o f g d = absurd (no_some zs d)
    parts others (Some u) None f g d = absurd (no_some zs d)
    parts others (Some u) (Some ws) f g d =
        let is = some_is (attr k u r ws) zs d in
        let rest = others ws g in (
          ap attr_names (sym is) ∙ ap (λ ns. k ∷ ns) rest.0,
          ap are_well_formed (sym is)
              ∙ and_both (is_well_formed u) (are_well_formed ws)
              (h.0 t u (and_left (is_well_formed t) (are_well_formed ys) w) f) rest.1,
        )

    by : ((ws : Attrs) → both_attrs m xs ys ≡ Some ws
        → (attr_names ws ≡ attr_names xs) × (are_well_formed ws ≡ true)) → (c : Bool)
        → (text_eq k l && mark_eq r q) ≡ c → (attr_names zs ≡ attr_names (attr k s r xs))
        × (are_well_formed zs ≡ true)
    by others true c = parts others (lub m s t) (both_attrs m xs ys) refl refl (sym (both_cons m k l s t r q xs ys c) ∙ e)
    by others false c = absurd (no_some zs (sym (both_differ m k l s t r q xs ys c) ∙ e))

strict_keeps : (m : ValidationMode) (xs ys : Attrs) (o p : Bool) (u : Ty) → AllTypes (KeepsForm m) xs
    → is_well_formed (TRecord xs o) ≡ true → are_well_formed ys ≡ true → (c : Bool) (b : Option Attrs)
    → both_attrs m xs ys ≡ b → (if c then Some (TRecord xs o) else closed_lub o p b) ≡ Some u
    → is_well_formed u ≡ true
strict_keeps m xs ys o p u h v w true b f e = at_bound (TRecord xs o) u v e
strict_keeps m xs ys true p u h v w false b f e = absurd (no_some u e)
strict_keeps m xs ys false true u h v w false b f e = absurd (no_some u e)
strict_keeps m xs ys false false u h v w false None f e = absurd (no_some u e)
strict_keeps m xs ys false false u h v w false (Some zs) f e =
    let kept = both_keeps m xs ys zs h w f in
    at_bound (TRecord zs false) u
    (and_both (names_ascend zs) (are_well_formed zs)
    (ap texts_ascending kept.0 ∙ and_left (names_ascend xs) (are_well_formed xs) v) kept.1) e

records_keep : (m : ValidationMode) (xs ys : Attrs) (o p : Bool) (u : Ty) → AllTypes (KeepsForm m) xs
    → is_well_formed (TRecord xs o) ≡ true → are_well_formed ys ≡ true → lub m (TRecord xs o) (TRecord ys p)
    ≡ Some u → is_well_formed u ≡ true
records_keep m xs ys o p u h v w e = by (is_strict m) refl
  where
    ascends : names_ascend xs ≡ true
    ascends = and_left (names_ascend xs) (are_well_formed xs) v

    by : (c : Bool) → is_strict m ≡ c → is_well_formed u ≡ true
    by true s =
        strict_keeps m xs ys o p u h v w (attrs_eq xs ys && mark_eq o p) (both_attrs m xs ys) refl
        (sym (record_strict m xs ys o p s) ∙ e)
    by false s =
        at_bound (wide_lub xs o ys p (common_attrs m xs ys)) u
        (and_both (names_ascend (common_attrs m xs ys)) (are_well_formed (common_attrs m xs ys))
        (common_ascends m xs ys ascends) (common_keeps m xs ys h w)) (sym (record_wide m xs ys o p s ascends) ∙ e)

-- ---- all types
mutual
  pub keeps_form : (m : ValidationMode) (s : Ty) → is_well_formed s ≡ true → KeepsForm m s
  keeps_form m TNever v t u w e = at_bound t u w (sym (never_left m t) ∙ e)
  keeps_form m s v TNever u w e = at_bound s u v (sym (never_right m s) ∙ e)
  keeps_form m (TBool j) v (TBool k) u w e = bools_keep _ _ _ u e
  keeps_form m TLong v TLong u w e = at_bound TLong u refl e
  keeps_form m TString v TString u w e = at_bound TString u refl e
  keeps_form m (TSet s) v (TSet t) u w e = sets_keep m s t u (keeps_form m s v) w (lub m s t) refl (sym (set_is m s t) ∙ e)
  keeps_form m (TSet s) v TAnySet u w e = at_bound TAnySet u refl e
  keeps_form m TAnySet v (TSet t) u w e = at_bound TAnySet u refl e
  keeps_form m TAnySet v TAnySet u w e = at_bound TAnySet u refl e
  keeps_form m (TRecord xs o) v (TRecord ys p) u w e =
      records_keep m xs ys o p u (all_keep_form m xs (and_right (names_ascend xs) (are_well_formed xs) v)) v
      (and_right (names_ascend ys) (are_well_formed ys) w) e
  keeps_form m (TEntity ps) v (TEntity qs) u w e = entities_keep m ps qs u v e
  keeps_form m (TEntity ps) v TAnyEntity u w e = at_bound TAnyEntity u refl e
  keeps_form m TAnyEntity v (TEntity qs) u w e = at_bound TAnyEntity u refl e
  keeps_form m TAnyEntity v TAnyEntity u w e = at_bound TAnyEntity u refl e
  keeps_form m (TExtension p) v (TExtension q) u w e = if_some (path_eq p q) (TExtension p) u refl e
  keeps_form m s v t u w e = absurd (no_some u e)

  pub all_keep_form : (m : ValidationMode) (xs : Attrs) → are_well_formed xs ≡ true → AllTypes (KeepsForm m) xs
  all_keep_form m no_attrs w = tt
  all_keep_form m (attr k t r xs) w = (
    keeps_form m t (and_left (is_well_formed t) (are_well_formed xs) w),
    all_keep_form m xs (and_right (is_well_formed t) (are_well_formed xs) w),
  )
