-- Tags of the entities of a conforming store, by a schema without external declarations.
use Rattle.std.proofs.Common.{◌≡◌, inl, true, false, not, List, [], Option, Some, None, is_some, refl, ap, subst}
use Rattle.std.specs.List.{list_any}
use Rattle.cedar_types.specs.declared.base.types.BoolType.TheVariants.{False}
use Rattle.cedar_types.specs.Names.{Text, Path, Uid, path_eq}
use Rattle.cedar_types.specs.Types.{Ty, TBool, TEntity, TAnyEntity}
use Rattle.cedar_types.specs.Schemas.{TypeKind, StandardKind, EnumKind, ExternalKind, DeclaredType, Schema, type_named, is_external_kind}
use Rattle.cedar_types.specs.Schemas.{is_external}
use Rattle.cedar_types.specs.Types.Lookups.{kind_tags, declared_tags, tags_of_types, tags_of_any, tag_types}
use Rattle.cedar_types.specs.Values.{Value, VString, VEntity, Entries, no_entries, entry_at, HasType}
use Rattle.cedar_types.specs.Values.Stores.{Entity, Store, entity_at, FitsKind, FitsDeclaration, ConformingStore}
use Rattle.cedar_typing.specs.Evaluation.Conformance.{IsOneOf, has_external}
use Rattle.cedar_typing.specs.Evaluation.Eval.{entity_has_tag, has_tag, tag_value, entity_tag, get_tag}
use Rattle.cedar_typing.specs.Evaluation.Outcomes.{of_test}
use Rattle.cedar_typing.specs.Soundness.{OnValue}
use Rattle.cedar_typing.proofs.Basics.{neither_left}
use Rattle.cedar_typing.proofs.Bounds.Lists.{in_order_has}
use Rattle.cedar_typing.proofs.Basics.Members.{in_flat, found_in, none_passes, name_in}
use Rattle.cedar_typing.proofs.Values.Equality.{OnSome, entry_has}

-- the value has one of the types
abbrev pub HasOneOf : List Ty → Value → Type 0
HasOneOf ts v = (t : Ty) × IsOneOf t ts × HasType t v

-- ---- declared tags

none_external : (s : Schema) → has_external s ≡ false → (p : Path) → is_external (type_named s.types p) ≡ false
none_external s closed p = by (type_named s.types p) refl
  where
    by : (o : Option DeclaredType) → type_named s.types p ≡ o → is_external o ≡ false
    by None e = refl
    by (Some d) e =
        let types_closed = neither_left (list_any (λ (t : DeclaredType). is_external_kind t.kind) s.types) _ closed in
        none_passes (λ (t : DeclaredType). is_external_kind t.kind) s.types types_closed d (found_in (λ t. path_eq p t.name) s.types d e)

module _ (s : Schema) (x : Text) (v : Value) where
  none_there : (es : Entries) → es ≡ no_entries → entry_at x es ≡ Some v → ⊥
  none_there es e h =
      let f : entry_at x es ≡ None = ap (entry_at x) e in
      cc

  kind_tag : (k : TypeKind) (p : Path) (e : Entity) → is_external_kind k ≡ false → FitsKind s.types p k e → entry_at x e.tags ≡ Some v
      → HasOneOf (kind_tags k) v
  kind_tag (StandardKind attrs (Some t)) p e n h f = (t, inl refl, subst (OnSome (HasType t)) f (entry_has (HasType t) x e.tags h.tagged))
  kind_tag (StandardKind attrs None) p e n h f = absurd (none_there e.tags h.tagged f)
  kind_tag (EnumKind ids) p e n h f = absurd (none_there e.tags h.tags f)
  kind_tag ExternalKind p e n h f = cc

  declared_tag : (d : Option DeclaredType) (u : Uid) (e : Entity) → is_external d ≡ false → FitsDeclaration s u d e
      → entry_at x e.tags ≡ Some v
      → HasOneOf (declared_tags d) v
  declared_tag None u e n h f = absurd (none_there e.tags h.1.tags f)
  declared_tag (Some d) u e n h f = kind_tag d.kind u.entity_type e n h f

-- ---- tags that a type may have

module _ (s : Schema) (t : Ty) where
  named_tag : (p : Path) (o : Option DeclaredType) → type_named s.types p ≡ o → IsOneOf t (declared_tags o)
      → IsOneOf t (tag_types s TAnyEntity)
  named_tag p None e h = absurd h
  named_tag p (Some d) e h =
      in_order_has (tags_of_any s.types) t
      (in_flat (λ (d : DeclaredType). kind_tags d.kind) t d s.types
      (found_in (λ d. path_eq p d.name) s.types d e) h)

  -- a tag type that the type of an entity declares is one that a type of that entity may have
  tag_in : (b : Ty) (u : Uid) → HasType b (VEntity u) → IsOneOf t (declared_tags (type_named s.types u.entity_type))
      → IsOneOf t (tag_types s b)
  tag_in (TEntity ps) u h k =
      in_order_has (tags_of_types s.types ps) t
      (in_flat (λ p. declared_tags (type_named s.types p)) t u.entity_type ps (name_in u.entity_type ps h) k)
  tag_in TAnyEntity u h k = named_tag u.entity_type (type_named s.types u.entity_type) refl k
  tag_in b u h k = absurd h

-- ---- stored tags

module _ (s : Schema) (closed : has_external s ≡ false) (store : Store) (conforms : ConformingStore s store) (b : Ty) where
  stored_tag : (u : Uid) (e : Entity) (x : Text) (v : Value) → HasType b (VEntity u) → entity_at store u ≡ Some e
      → entry_at x e.tags ≡ Some v
      → HasOneOf (tag_types s b) v
  stored_tag u e x v h q f =
      let declaration = type_named s.types u.entity_type in
      let d = declared_tag s x v declaration u e (none_external s closed u.entity_type) (conforms.entities u e q) f in
      (d.0, tag_in s d.0 b u h d.1, d.2)

  -- a tag that is read has one of the types
  pub tag_got : (v w : Value) → HasType b v → OnValue (HasOneOf (tag_types s b)) (get_tag store v w)
  tag_got (VEntity u) (VString x) h = of_entity (entity_at store u) refl
    where
      of_entry : (e : Entity) (o : Option Value) → entity_at store u ≡ Some e → entry_at x e.tags ≡ o
          → OnValue (HasOneOf (tag_types s b)) (tag_value o)
      of_entry e None q f = tt
      of_entry e (Some v) q f = stored_tag u e x v h q f

      of_entity : (q : Option Entity) → entity_at store u ≡ q → OnValue (HasOneOf (tag_types s b)) (entity_tag q x)
      of_entity None q = tt
      of_entity (Some e) q = of_entry e (entry_at x e.tags) q refl
  tag_got (VEntity u) w h = tt
  tag_got v w h = tt

  -- if there is no type that a tag may have, there is no tag
  pub no_tag : tag_types s b ≡ [] → (v w : Value) → HasType b v → OnValue (HasType (TBool False)) (of_test (has_tag store v w))
  no_tag none (VEntity u) (VString x) h = of_entity (entity_at store u) refl
    where
      of_entry : (e : Entity) (o : Option Value) → entity_at store u ≡ Some e → entry_at x e.tags ≡ o → is_some o ≡ false
      of_entry e None q f = refl
      of_entry e (Some v) q f =
          let t = stored_tag u e x v h q f in
          absurd (subst (IsOneOf t.0) none t.1)

      of_entity : (q : Option Entity) → entity_at store u ≡ q → not (entity_has_tag q x) ≡ true
      of_entity None q = refl
      of_entity (Some e) q = ap not (of_entry e (entry_at x e.tags) q refl)
  no_tag none (VEntity u) w h = tt
  no_tag none v w h = tt
