-- Memberships that a schema allows between types and actions.
use Rattle.std.proofs.Common.{◌≡◌, refl, sym, ap, ◌∙◌, Bool, true, false, ◌||◌, ◌&&◌, not, List, Option, Some, None, IsTrue}
use Rattle.std.specs.List.{list_any, list_all}
use Rattle.std.proofs.Math.Bool.{or-true}
use Rattle.cedar_types.specs.Names.{Path, Uid, is_action_path, path_eq, uid_eq}
use Rattle.cedar_types.specs.Schemas.{TypeKind, StandardKind, EnumKind, ExternalKind, DeclaredType, DeclaredAction, Schema, uid_is_among}
use Rattle.cedar_types.specs.Schemas.{is_among, type_named, declares_type, declares_action, descendants_of, has_fault, are_actions}
use Rattle.cedar_types.specs.Schemas.{action_descendants_declared, action_is_below, may_be_in, is_open_type, is_external, is_external_kind}
use Rattle.cedar_types.specs.Schemas.{knows_type}
use Rattle.cedar_types.specs.Values.Stores.{Entity, FitsDeclaration, FitsKind, FitsAction, MembershipsAreAllowed}
use Rattle.cedar_types.proofs.Names.Ids.{path_decides, uid_decides, uid_symm}
use Rattle.cedar_types.proofs.Schema.Faultless.{faultless}
use Rattle.cedar_types.proofs.Tests.{found, each, and_left, and_right, and_both, alike}

-- An action of the type l descends from one of the type r, tested on each action's descendants
abbrev pub below_seen : List DeclaredAction → Path → Path → Bool
below_seen acts l r = list_any (λ a. path_eq r a.name.entity_type && list_any (λ d. path_eq l d.entity_type) a.descendants) acts

module _ (acts : List DeclaredAction) (named : are_actions acts ≡ true) (known : action_descendants_declared acts ≡ true) (l r : Path) where
  from_seen : below_seen acts l r ≡ true → action_is_below acts l r ≡ true
  from_seen h =
      let a = found (λ a. path_eq r a.name.entity_type && list_any (λ d. path_eq l d.entity_type) a.descendants) acts h in
      let ds = a.element.descendants in
      let at_r = and_left (path_eq r a.element.name.entity_type) (list_any (λ d. path_eq l d.entity_type) ds) a.passes in
      let d = found (λ d. path_eq l d.entity_type) ds
      (and_right (path_eq r a.element.name.entity_type)
      (list_any (λ d. path_eq l d.entity_type) ds) a.passes) in
      let declared = each (declares_action acts) ds d.element
      (each (λ a. list_all (declares_action acts) a.descendants) acts a.element known a.within) d.within in
      let b = found (λ b. uid_eq d.element b.name) acts declared in
      let same : d.element ≡ b.element.name = (uid_decides d.element b.element.name).0 b.passes in
      a.within.passes (λ a. path_eq r a.name.entity_type
      && list_any (λ b. path_eq l b.name.entity_type && uid_is_among a.descendants b.name) acts)
      (and_both (path_eq r a.element.name.entity_type) (list_any (λ b. path_eq l b.name.entity_type && uid_is_among ds b.name) acts) at_r
      (b.within.passes (λ b. path_eq l b.name.entity_type && uid_is_among ds b.name)
      (and_both (path_eq l b.element.name.entity_type) (uid_is_among ds b.element.name)
      (ap (λ u. path_eq l u.entity_type) (sym same) ∙ d.passes)
      (d.within.passes (uid_eq b.element.name) (uid_symm b.element.name d.element ∙ b.passes)))))

  to_seen : action_is_below acts l r ≡ true → (is_action_path l && is_action_path r && below_seen acts l r) ≡ true
  to_seen h =
      let a = found (λ a. path_eq r a.name.entity_type
      && list_any (λ b. path_eq l b.name.entity_type && uid_is_among a.descendants b.name) acts) acts h in
      let ds = a.element.descendants in
      let inner = list_any (λ b. path_eq l b.name.entity_type && uid_is_among ds b.name) acts in
      let at_r = and_left (path_eq r a.element.name.entity_type) inner a.passes in
      let b = found (λ b. path_eq l b.name.entity_type && uid_is_among ds b.name) acts
      (and_right (path_eq r a.element.name.entity_type) inner a.passes) in
      let at_l = and_left (path_eq l b.element.name.entity_type) (uid_is_among ds b.element.name) b.passes in
      let d = found (uid_eq b.element.name) ds
      (and_right (path_eq l b.element.name.entity_type) (uid_is_among ds b.element.name) b.passes) in
      let left : is_action_path l ≡ true = ap is_action_path ((path_decides l b.element.name.entity_type).0 at_l)
      ∙ each (λ a. is_action_path a.name.entity_type) acts b.element named b.within in
      let right : is_action_path r ≡ true = ap is_action_path ((path_decides r a.element.name.entity_type).0 at_r)
      ∙ each (λ a. is_action_path a.name.entity_type) acts a.element named a.within in
      and_both (is_action_path l && is_action_path r) (below_seen acts l r) (and_both (is_action_path l) (is_action_path r) left right)
      (a.within.passes (λ a. path_eq r a.name.entity_type && list_any (λ d. path_eq l d.entity_type) a.descendants)
      (and_both (path_eq r a.element.name.entity_type) (list_any (λ d. path_eq l d.entity_type) ds) at_r
      (d.within.passes (λ d. path_eq l d.entity_type)
      (ap (λ u. path_eq l u.entity_type) (sym ((uid_decides b.element.name d.element).0 d.passes)) ∙ at_l))))

-- The program's test of actions is the test `action_is_below`, if the schema has no fault
pub below_is : (s : Schema) → has_fault s ≡ false → (l r : Path)
    → (is_action_path l && is_action_path r && below_seen s.actions l r) ≡ action_is_below s.actions l r
below_is s h l r =
    let f = faultless s h in
    alike (is_action_path l && is_action_path r && below_seen s.actions l r) (action_is_below s.actions l r)
    (λ e. from_seen s.actions f.actions f.descendants l r (and_right (is_action_path l && is_action_path r) (below_seen s.actions l r) e))
    (to_seen s.actions f.actions f.descendants l r)

-- ---- a conforming store has only memberships that the schema allows

second : (a b c d e : Bool) → b ≡ true → (a || b || c || d || e) ≡ true
second a b c d e h = ap (λ b. a || b || c || d || e) h ∙ ap (λ r. r || c || d || e) (or-true a)

fourth : (a b c d e : Bool) → d ≡ true → (a || b || c || d || e) ≡ true
fourth a b c d e h = ap (λ d. a || b || c || d || e) h ∙ ap (λ r. r || e) (or-true (a || b || c))

fifth : (a b c d e : Bool) → e ≡ true → (a || b || c || d || e) ≡ true
fifth a b c d e h = ap (λ e. a || b || c || d || e) h ∙ or-true (a || b || c || d)

module _ (s : Schema) (u v : Uid) (e : Entity) (above : uid_is_among e.ancestors v ≡ true) where
  of_action : IsTrue (declares_action s.actions u) → FitsAction s.actions u e → action_is_below s.actions u.entity_type v.entity_type ≡ true
  of_action declared fits =
      let a = found (λ a. uid_eq v a.name && uid_is_among a.descendants u) s.actions (sym (fits.ancestors v) ∙ above) in
      let ds = a.element.descendants in
      let at_v = and_left (uid_eq v a.element.name) (uid_is_among ds u) a.passes in
      let b = found (λ b. uid_eq u b.name) s.actions declared in
      let same : u ≡ b.element.name = (uid_decides u b.element.name).0 b.passes in
      a.within.passes (λ a. path_eq v.entity_type a.name.entity_type
      && list_any (λ b. path_eq u.entity_type b.name.entity_type && uid_is_among a.descendants b.name)
      s.actions)
      (and_both (path_eq v.entity_type a.element.name.entity_type)
      (list_any (λ b. path_eq u.entity_type b.name.entity_type && uid_is_among ds b.name) s.actions)
      ((path_decides v.entity_type a.element.name.entity_type).1 (ap (λ w. w.entity_type) ((uid_decides v a.element.name).0 at_v)))
      (b.within.passes (λ b. path_eq u.entity_type b.name.entity_type && uid_is_among ds b.name)
      (and_both (path_eq u.entity_type b.element.name.entity_type) (uid_is_among ds b.element.name)
      ((path_decides u.entity_type b.element.name.entity_type).1 (ap (λ w. w.entity_type) same))
      (ap (uid_is_among ds) (sym same) ∙ and_right (uid_eq v a.element.name) (uid_is_among ds u) a.passes))))

  of_kind : (t : DeclaredType) (k : TypeKind) → type_named s.types u.entity_type ≡ Some t → k ≡ t.kind
      → FitsKind s.types u.entity_type k e → may_be_in s u.entity_type v.entity_type ≡ true
  of_kind t (StandardKind attrs tags) named is fits =
      fourth (path_eq u.entity_type v.entity_type) (is_open_type s.types u.entity_type)
      (is_open_type s.types v.entity_type) (is_among (descendants_of s.types v.entity_type) u.entity_type)
      (action_is_below s.actions u.entity_type v.entity_type)
      (and_right (declares_type s.types v.entity_type)
      (is_among (descendants_of s.types v.entity_type) u.entity_type) (fits.ancestors v above))
  of_kind t (EnumKind ids) named is fits =
      let none : uid_is_among e.ancestors v ≡ false = ap (λ vs. uid_is_among vs v) fits.ancestors in
      cc
  of_kind t ExternalKind named is fits =
      second (path_eq u.entity_type v.entity_type) (is_open_type s.types u.entity_type)
      (is_open_type s.types v.entity_type) (is_among (descendants_of s.types v.entity_type) u.entity_type)
      (action_is_below s.actions u.entity_type v.entity_type)
      (ap (λ b. not (knows_type s.types u.entity_type) || b) (ap is_external named ∙ ap is_external_kind (sym is))
      ∙ or-true (not (knows_type s.types u.entity_type)))

  of_declaration : (o : Option DeclaredType) → type_named s.types u.entity_type ≡ o → FitsDeclaration s u o e
      → may_be_in s u.entity_type v.entity_type ≡ true
  of_declaration None named fits =
      fifth (path_eq u.entity_type v.entity_type) (is_open_type s.types u.entity_type)
      (is_open_type s.types v.entity_type) (is_among (descendants_of s.types v.entity_type) u.entity_type)
      (action_is_below s.actions u.entity_type v.entity_type)
      (of_action fits.0 fits.1)
  of_declaration (Some t) named fits = of_kind t t.kind named refl fits

pub memberships_allowed : MembershipsAreAllowed
memberships_allowed s h store c u v a = of_declaration s u v a.0 a.2 (type_named s.types u.entity_type) refl (c.entities u a.0 a.1)
