-- The test of stores decides which conform.
use Rattle.std.proofs.Common.{◌≡◌, refl, sym, ap, ◌∙◌, subst, Bool, true, false, true≢false, not, ◌&&◌, ◌||◌, List, [], ◌∷◌, Option, Some}
use Rattle.std.proofs.Common.{None, is_some, IsTrue, if◌then◌else◌}
use Rattle.std.specs.Bool.{Decides}
use Rattle.std.specs.List.{list_any, list_all}
use Rattle.std.proofs.lemmas.Bool.Decides.{Decides-and, Decides-like}
use Rattle.cedar_types.specs.Lemmas.Comparisons.{uid_same}
use Rattle.cedar_types.specs.Names.{Path, Uid, uid_eq}
use Rattle.cedar_types.specs.Types.{Ty, Attrs, attr_names}
use Rattle.cedar_types.specs.Schemas.{TypeKind, StandardKind, EnumKind, ExternalKind, DeclaredType, DeclaredAction, Schema, uid_is_among}
use Rattle.cedar_types.specs.Schemas.{declares_action, has_repeat}
use Rattle.cedar_types.specs.Values.{Entries, no_entries, more_entries, HasType}
use Rattle.cedar_types.specs.Values.Stores.{Entity, Store, entity_at, TagsFit, AncestorsFit, IsBare, FitsStandard, FitsKind}
use Rattle.cedar_types.specs.Values.Stores.{declares_ancestor, FitsAction, FitsDeclaration, ConformingStore}
use Rattle.cedar_types.proofs.Tests.{found, each, and_left, and_right, and_both, alike}
use Rattle.cedar_typing.proofs.Basics.{neither_left, neither_right}
use Rattle.cedar_conformance.specs.StoreTests.{is_empty_record, are_no_ids, tags_fit, ancestor_fits, is_bare, fits_standard, fits_kind}
use Rattle.cedar_conformance.specs.StoreTests.{has_its_ancestor, fits_action, fits_declaration, fits_schema, store_fits, IsApart}
use Rattle.cedar_conformance.specs.Tests.{keys_among, has_type, have_attrs}
use Rattle.cedar_conformance.proofs.Lists.{all_within}
use Rattle.cedar_conformance.proofs.TypeTests.{always, itself, entries_decide, keys_decide, type_decides, attrs_decide}

-- ---- emptiness

empty_decides : (es : Entries) → Decides (is_empty_record es) (es ≡ no_entries)
empty_decides no_entries = (λ e. refl, λ e. refl)
empty_decides (more_entries k v es) = (λ e. absurd (true≢false (sym e)), λ e. cc)

no_ids_decides : (us : List Uid) → Decides (are_no_ids us) (us ≡ [])
no_ids_decides [] = (λ e. refl, λ e. refl)
no_ids_decides (u ∷ us) = (λ e. absurd (true≢false (sym e)), λ e. cc)

bare_decides : (e : Entity) → Decides (is_bare e) (IsBare e)
bare_decides e =
    Decides-like (is_bare e)
    (λ h. record { attributes = h.0; ancestors = h.1.0; tags = h.1.1 })
    (λ b. (b.attributes, (b.ancestors, b.tags)))
    (Decides-and (is_empty_record e.attributes) (are_no_ids e.ancestors && is_empty_record e.tags) (empty_decides e.attributes)
    (Decides-and (are_no_ids e.ancestors) (is_empty_record e.tags) (no_ids_decides e.ancestors) (empty_decides e.tags)))

-- ---- standard types

tags_decide : (o : Option Ty) (es : Entries) → Decides (tags_fit o es) (TagsFit o es)
tags_decide None es = empty_decides es
tags_decide (Some t) es = entries_decide (has_type t) (HasType t) (type_decides t) es

ancestors_decide : (ts : List DeclaredType) (p : Path) (vs : List Uid)
    → Decides (list_all (ancestor_fits ts p) vs) (AncestorsFit ts p vs)
ancestors_decide ts p vs = (
  λ h v m.
      let w = found (uid_eq v) vs m in
      subst (λ u. ancestor_fits ts p u ≡ true) (sym (uid_same.to v w.element w.passes))
      (each (ancestor_fits ts p) vs w.element h w.within),
  λ f. all_within (ancestor_fits ts p) vs (λ v w. f v (w.passes (uid_eq v) (uid_same.itself v))),
)

standard_decides : (ts : List DeclaredType) (p : Path) (attrs : Attrs) (tags : Option Ty) (e : Entity)
    → Decides (fits_standard ts p attrs tags e) (FitsStandard ts p attrs tags e)
standard_decides ts p attrs tags e =
    Decides-like (fits_standard ts p attrs tags e)
    (λ h. record { attributes = h.0; tagged = h.1.0; ancestors = h.1.1 })
    (λ f. (f.attributes, (f.tagged, f.ancestors)))
    (Decides-and (have_attrs attrs e.attributes && keys_among (attr_names attrs) e.attributes)
    (tags_fit tags e.tags && list_all (ancestor_fits ts p) e.ancestors)
    (Decides-and (have_attrs attrs e.attributes) (keys_among (attr_names attrs) e.attributes) (attrs_decide attrs e.attributes)
    (keys_decide (attr_names attrs) e.attributes))
    (Decides-and (tags_fit tags e.tags) (list_all (ancestor_fits ts p) e.ancestors) (tags_decide tags e.tags)
    (ancestors_decide ts p e.ancestors)))

kind_decides : (ts : List DeclaredType) (p : Path) (k : TypeKind) (e : Entity) → Decides (fits_kind ts p k e) (FitsKind ts p k e)
kind_decides ts p (StandardKind attrs tags) e = standard_decides ts p attrs tags e
kind_decides ts p (EnumKind ids) e = bare_decides e
kind_decides ts p ExternalKind e = always

-- ---- actions

implied : (a b : Bool) → (not a || b) ≡ true → a ≡ true → b ≡ true
implied true b h k = h
implied false b h k = cc

implies : (a b : Bool) → (a ≡ true → b ≡ true) → (not a || b) ≡ true
implies true b h = h refl
implies false b h = refl

module _ (acts : List DeclaredAction) (u : Uid) (e : Entity) where
  from_tests : list_all (declares_ancestor acts u) e.ancestors ≡ true → list_all (has_its_ancestor u e) acts ≡ true
      → (v : Uid) → uid_is_among e.ancestors v ≡ declares_ancestor acts u v
  from_tests declared there v =
      alike (uid_is_among e.ancestors v) (declares_ancestor acts u v)
      (λ m.
      let w = found (uid_eq v) e.ancestors m in
      subst (λ x. declares_ancestor acts u x ≡ true) (sym (uid_same.to v w.element w.passes))
      (each (declares_ancestor acts u) e.ancestors w.element declared w.within))
      (λ m.
      let a = found (λ a. uid_eq v a.name && uid_is_among a.descendants u) acts m in
      let same = uid_same.to v a.element.name (and_left (uid_eq v a.element.name) (uid_is_among a.element.descendants u) a.passes) in
      let below = and_right (uid_eq v a.element.name) (uid_is_among a.element.descendants u) a.passes in
      subst (λ x. uid_is_among e.ancestors x ≡ true) (sym same)
      (implied (uid_is_among a.element.descendants u) (uid_is_among e.ancestors a.element.name)
      (each (has_its_ancestor u e) acts a.element there a.within) below))

  to_tests : ((v : Uid) → uid_is_among e.ancestors v ≡ declares_ancestor acts u v)
      → (list_all (declares_ancestor acts u) e.ancestors && list_all (has_its_ancestor u e) acts) ≡ true
  to_tests f =
      and_both (list_all (declares_ancestor acts u) e.ancestors) (list_all (has_its_ancestor u e) acts)
      (all_within (declares_ancestor acts u) e.ancestors (λ v w. sym (f v) ∙ w.passes (uid_eq v) (uid_same.itself v)))
      (all_within (has_its_ancestor u e) acts (λ a w.
      implies (uid_is_among a.descendants u) (uid_is_among e.ancestors a.name) (λ m.
      f a.name ∙ w.passes (λ b. uid_eq a.name b.name && uid_is_among b.descendants u)
      (and_both (uid_eq a.name a.name) (uid_is_among a.descendants u) (uid_same.itself a.name) m))))

  both_tests : Decides (list_all (declares_ancestor acts u) e.ancestors && list_all (has_its_ancestor u e) acts)
      ((v : Uid) → uid_is_among e.ancestors v ≡ declares_ancestor acts u v)
  both_tests = (
    λ h. from_tests (and_left (list_all (declares_ancestor acts u) e.ancestors) (list_all (has_its_ancestor u e) acts) h)
        (and_right (list_all (declares_ancestor acts u) e.ancestors) (list_all (has_its_ancestor u e) acts) h),
    to_tests,
  )

  action_decides : Decides (fits_action acts u e) (FitsAction acts u e)
  action_decides =
      Decides-like (fits_action acts u e)
      (λ h. record { attributes = h.0.0; ancestors = h.1; tags = h.0.1 })
      (λ f. ((f.attributes, f.tags), f.ancestors))
      (Decides-and (is_empty_record e.attributes && is_empty_record e.tags)
      (list_all (declares_ancestor acts u) e.ancestors && list_all (has_its_ancestor u e) acts)
      (Decides-and (is_empty_record e.attributes) (is_empty_record e.tags) (empty_decides e.attributes) (empty_decides e.tags))
      both_tests)

-- ---- entities

pub declaration_decides : (s : Schema) (u : Uid) (o : Option DeclaredType) (e : Entity)
    → Decides (fits_declaration s u o e) (FitsDeclaration s u o e)
declaration_decides s u None e =
    Decides-and (declares_action s.actions u) (fits_action s.actions u e) (itself (declares_action s.actions u))
    (action_decides s.actions u e)
declaration_decides s u (Some t) e = kind_decides s.types u.entity_type t.kind e

-- ---- stores

some_is : {A : Type 0} {x y : A} → Some x ≡ Some y → x ≡ y
some_is e = cc

-- an entity that the store finds passes if each entry passes
fits_found : (p : Uid × Entity → Bool) (store : Store) → list_all p store ≡ true → (u : Uid) (e : Entity) → entity_at store u ≡ Some e
    → p (u, e) ≡ true
fits_found p [] h u e m = cc
fits_found p (x ∷ store) h u e m =
    at (uid_eq u x.0) refl m (fits_found p store (and_right (p x) (list_all p store) h) u e)
  where
    at : (b : Bool) → uid_eq u x.0 ≡ b → if◌then◌else◌ {A = Option Entity} b (Some x.1) (entity_at store u) ≡ Some e
        → (entity_at store u ≡ Some e → p (u, e) ≡ true) → p (u, e) ≡ true
    at true i k f =
        let same : e ≡ x.1 = sym (some_is k) in
        let named : u ≡ x.0 = uid_same.to u x.0 i in
        (λ j. p (named j, same j)) ∙ and_left (p x) (list_all p store) h
    at false i k f = f k

-- an id that no entry has is not found
unnamed : (k : Uid) (store : Store) → list_any (λ y. uid_eq k y.0) store ≡ false → entity_at store k ≡ None
unnamed k [] h = refl
unnamed k (x ∷ store) h = at (uid_eq k x.0) h (unnamed k store)
  where
    at : (b : Bool) → (b || list_any (λ y. uid_eq k y.0) store) ≡ false
        → (list_any (λ y. uid_eq k y.0) store ≡ false → entity_at store k ≡ None)
        → if◌then◌else◌ {A = Option Entity} b (Some x.1) (entity_at store k) ≡ None
    at true h f = cc
    at false h f = f h

-- each entry passes, if each found entity passes and no two entries have one id
all_fit : (p : Uid × Entity → Bool) (store : Store) → IsApart store
    → ((u : Uid) (e : Entity) → entity_at store u ≡ Some e → p (u, e) ≡ true) → list_all p store ≡ true
all_fit p [] a f = refl
all_fit p (x ∷ store) a f =
    and_both (p x) (list_all p store)
    (f x.0 x.1 (ap (λ b. if◌then◌else◌ {A = Option Entity} b (Some x.1) (entity_at store x.0)) (uid_same.itself x.0)))
    (all_fit p store (neither_right (list_any (λ y. uid_eq x.0 y.0) store) (has_repeat (λ y z. uid_eq y.0 z.0) store) a)
    (λ u e m. f u e (later u e m (uid_eq u x.0) refl)))
  where
    later : (u : Uid) (e : Entity) → entity_at store u ≡ Some e → (b : Bool) → uid_eq u x.0 ≡ b
        → if◌then◌else◌ {A = Option Entity} (uid_eq u x.0) (Some x.1) (entity_at store u) ≡ Some e
    later u e m true i =
        let none = unnamed x.0 store (neither_left (list_any (λ y. uid_eq x.0 y.0) store) (has_repeat (λ y z. uid_eq y.0 z.0) store) a) in
        let no : ◌≡◌ {A = Option Entity} None (Some e) =
        sym (subst (λ w. entity_at store w ≡ None) (sym (uid_same.to u x.0 i)) none) ∙ m in
        cc
    later u e m false i = ap (λ b. if◌then◌else◌ {A = Option Entity} b (Some x.1) (entity_at store u)) i ∙ m

some_of : (o : Option Entity) → is_some o ≡ true → (e : Entity) × (o ≡ Some e)
some_of None h = cc
some_of (Some e) h = (e, refl)

module _ (s : Schema) (store : Store) where
  there : list_all (λ a. is_some (entity_at store a.name)) s.actions ≡ true → (u : Uid) → IsTrue (declares_action s.actions u)
      → (e : Entity) × (entity_at store u ≡ Some e)
  there h u d =
      let a = found (λ a. uid_eq u a.name) s.actions d in
      some_of (entity_at store u)
      (subst (λ w. is_some (entity_at store w) ≡ true) (sym (uid_same.to u a.element.name a.passes))
      (each (λ a. is_some (entity_at store a.name)) s.actions a.element h a.within))

  pub store_decides : IsApart store → Decides (store_fits s store) (ConformingStore s store)
  store_decides apart = (
    λ h. record {
      entities = λ u e m. (declaration_decides s u _ e).0
          (fits_found (fits_schema s) store
          (and_left (list_all (fits_schema s) store) (list_all (λ a. is_some (entity_at store a.name)) s.actions) h) u e m);
      actions = there (and_right (list_all (fits_schema s) store) (list_all (λ a. is_some (entity_at store a.name)) s.actions) h);
    },
    λ c. and_both (list_all (fits_schema s) store) (list_all (λ a. is_some (entity_at store a.name)) s.actions)
        (all_fit (fits_schema s) store apart (λ u e m. (declaration_decides s u _ e).1 (c.entities u e m)))
        (all_within (λ a. is_some (entity_at store a.name)) s.actions (λ a w.
        ap is_some (c.actions a.name (w.passes (λ b. uid_eq a.name b.name) (uid_same.itself a.name))).1)),
  )
