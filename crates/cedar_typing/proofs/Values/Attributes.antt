-- Attributes of the values of a type.
use Rattle.std.proofs.Common.{◌≡◌, Bool, true, false, ◌||◌, not, List, [], ◌∷◌, Option, Some, None, is_some, refl, sym, ap, subst}
use Rattle.std.specs.Prelude.{IsTrue}
use Rattle.std.specs.List.{list_any}
use Rattle.cedar_types.specs.Names.{Text, Path, Uid, path_eq}
use Rattle.cedar_types.specs.Lemmas.Comparisons.{path_same}
use Rattle.cedar_types.specs.Types.{Ty, TNever, TBool, TLong, TString, TSet, TAnySet, TRecord, TEntity, TAnyEntity, TExtension, Attrs}
use Rattle.cedar_types.specs.Types.{attr_names}
use Rattle.cedar_types.specs.Types.Bounds.{find_attr}
use Rattle.cedar_types.specs.Schemas.{TypeKind, StandardKind, EnumKind, ExternalKind, DeclaredType, Schema, is_among, is_external}
use Rattle.cedar_types.specs.Schemas.{knows_type, type_named}
use Rattle.cedar_types.specs.Types.Lookups.{kind_attribute, declared_kind_attribute, types_attribute, attribute_type, may_declare, may_have}
use Rattle.cedar_types.specs.Values.{Value, VBool, VLong, VString, VEntity, VSet, VRecord, VExtension, Entries, no_entries, entry_at}
use Rattle.cedar_types.specs.Values.{HasType}
use Rattle.cedar_types.specs.Values.Stores.{Entity, Store, entity_at, FitsKind, FitsDeclaration, ConformingStore}
use Rattle.cedar_typing.specs.Evaluation.Conformance.{SaysTrue}
use Rattle.cedar_typing.specs.Evaluation.Eval.{entity_has, has_test, attribute_value, entity_get, get}
use Rattle.cedar_typing.specs.Evaluation.Outcomes.{Says}
use Rattle.cedar_typing.specs.Evaluation.World.{Outcome, Fails, TypeFailure, MissingEntity}
use Rattle.cedar_typing.specs.Soundness.{OnValue, IsSafe}
use Rattle.cedar_typing.specs.TypeTests.{accepts, object_types, is_record}
use Rattle.cedar_typing.proofs.Basics.{or_cases, or_left, or_right}
use Rattle.cedar_typing.proofs.Bounds.Attributes.{AttrAt, found_at, named_found, key_named, Joins, types_at}

-- ---- values that may be objects

abbrev IsObject : Value → Type 0
IsObject (VBool b) = ⊥
IsObject (VLong n) = ⊥
IsObject (VString t) = ⊥
IsObject (VEntity u) = Unit {0}
IsObject (VSet vs) = ⊥
IsObject (VRecord es) = Unit {0}
IsObject (VExtension n t) = ⊥

object_of : (b : Ty) (v : Value) → accepts object_types b ≡ true → HasType b v → IsObject v
object_of TNever v a h = absurd h
object_of (TBool k) v a h = cc
object_of TLong v a h = cc
object_of TString v a h = cc
object_of (TSet t) v a h = cc
object_of TAnySet v a h = cc
object_of (TRecord xs o) (VRecord es) a h = tt
object_of (TRecord xs o) v a h = absurd h
object_of (TEntity ps) (VEntity u) a h = tt
object_of (TEntity ps) v a h = absurd h
object_of TAnyEntity (VEntity u) a h = tt
object_of TAnyEntity v a h = absurd h
object_of (TExtension n) v a h = cc

-- the outcome is a value of the attribute's type, and a required attribute is there
abbrev pub GetFits : Option (Ty × Bool) → Outcome → Type 0
GetFits None o = Unit {0}
GetFits (Some a) o = OnValue (HasType a.0) o × (a.1 ≡ true → IsSafe o)

value_fits : (f : Option (Ty × Bool)) (o : Option Value) → AttrAt f o → GetFits f (attribute_value o)
value_fits None o h = tt
value_fits (Some a) None h = (tt, λ e. absurd (not_required a.1 h e))
  where
    not_required : (r : Bool) → IsTrue (not r) → r ≡ true → ⊥
    not_required true n e = cc
    not_required false n e = cc
value_fits (Some a) (Some v) h = (h, λ e. tt)

missing_fits : (f : Option (Ty × Bool)) → GetFits f (Fails MissingEntity)
missing_fits None = tt
missing_fits (Some a) = (tt, λ e. tt)

module _ (s : Schema) (x : Text) where
  kind_at : (k : TypeKind) (p : Path) (e : Entity) → FitsKind s.types p k e → AttrAt (kind_attribute x k) (entry_at x e.attributes)
  kind_at (StandardKind attrs tags) p e h = found_at x attrs e.attributes h.attributes.0
  kind_at (EnumKind ids) p e h = tt
  kind_at ExternalKind p e h = tt

  declaration_at : (d : Option DeclaredType) (u : Uid) (e : Entity) → FitsDeclaration s u d e
      → AttrAt (declared_kind_attribute x d) (entry_at x e.attributes)
  declaration_at None u e h = tt
  declaration_at (Some t) u e h = kind_at t.kind u.entity_type e h

  none_there : (es : Entries) → es ≡ no_entries → is_some (entry_at x es) ≡ true → ⊥
  none_there es e h =
      let f : is_some (entry_at x es) ≡ false = ap (λ fs. is_some (entry_at x fs)) e in
      cc

  -- an attribute that an entity has is one that its type may have
  kind_may : (k : TypeKind) (b c : Bool) (p : Path) (e : Entity) → FitsKind s.types p k e
      → is_some (entry_at x e.attributes) ≡ true
      → is_external (Some (record { name = p; descendants = []; kind = k })) ≡ c
      → ((b || c) || is_some (kind_attribute x k)) ≡ true
  kind_may (StandardKind attrs tags) b c p e h g f =
      or_right (b || c) (is_some (find_attr x attrs))
      (named_found x attrs (key_named x (attr_names attrs) e.attributes h.attributes.1 g))
  kind_may (EnumKind ids) b c p e h g f = absurd (none_there e.attributes h.attributes g)
  kind_may ExternalKind b c p e h g f = or_left (b || c) false (or_right b c (sym f))

  declaration_may : (d : Option DeclaredType) (b : Bool) (u : Uid) (e : Entity) → FitsDeclaration s u d e
      → is_some (entry_at x e.attributes) ≡ true
      → ((b || is_external d) || is_some (declared_kind_attribute x d)) ≡ true
  declaration_may None b u e h g = absurd (none_there e.attributes h.1.attributes g)
  declaration_may (Some t) b u e h g = kind_may t.kind b (is_external (Some t)) u.entity_type e h g refl

  one_may : (ps : List Path) (p : Path) → is_among ps p ≡ true → may_declare s.types x p ≡ true → list_any (may_declare s.types x) ps ≡ true
  one_may [] p m h = cc
  one_may (q ∷ qs) p m h =
      or_cases (path_eq p q) (is_among qs p) (list_any (may_declare s.types x) (q ∷ qs) ≡ true)
      (λ e. or_left (may_declare s.types x q) (list_any (may_declare s.types x) qs)
      (subst (λ r. may_declare s.types x r ≡ true) (path_same.to p q e) h))
      (λ e. or_right (may_declare s.types x q) (list_any (may_declare s.types x) qs) (one_may qs p e h)) m

  module _ (store : Store) (conforms : ConformingStore s store) where
    entity_got : (ps : List Path) (u : Uid) (q : Option Entity) → entity_at store u ≡ q → Joins s (TEntity ps)
        → is_among ps u.entity_type ≡ true → GetFits (types_attribute s.types x ps) (entity_get q x)
    entity_got ps u None e j m = missing_fits (types_attribute s.types x ps)
    entity_got ps u (Some y) e j m =
        value_fits (types_attribute s.types x ps) (entry_at x y.attributes)
        (types_at s x ps u.entity_type (entry_at x y.attributes) j m
        (declaration_at (type_named s.types u.entity_type) u y (conforms.entities u y e)))

    -- the attribute has its type, and a required attribute is there, though the entity may be
    -- missing
    pub got : (b : Ty) (v : Value) → Joins s b → HasType b v → GetFits (attribute_type s b x) (get store x v)
    got TNever v j h = tt
    got (TBool k) v j h = tt
    got TLong v j h = tt
    got TString v j h = tt
    got (TSet t) v j h = tt
    got TAnySet v j h = tt
    got (TRecord xs o) (VRecord es) j h = value_fits (find_attr x xs) (entry_at x es) (found_at x xs es h.0)
    got (TRecord xs o) v j h = absurd h
    got (TEntity ps) (VEntity u) j h = entity_got ps u (entity_at store u) refl j h
    got (TEntity ps) v j h = absurd h
    got TAnyEntity v j h = tt
    got (TExtension n) v j h = tt

    pub get_typed : (b t : Ty) (r : Bool) (v : Value) → Joins s b → HasType b v → attribute_type s b x ≡ Some (t, r)
        → OnValue (HasType t) (get store x v)
    get_typed b t r v j h e = (subst (λ f. GetFits f (get store x v)) e (got b v j h)).0

    -- an attribute that is there has a value
    value_safe : (o : Option Value) → is_some o ≡ true → IsSafe (attribute_value o)
    value_safe None h = cc
    value_safe (Some v) h = tt

    entity_safe : (q : Option Entity) → entity_has q x ≡ true → IsSafe (entity_get q x)
    entity_safe None h = tt
    entity_safe (Some e) h = value_safe (entry_at x e.attributes) h

    pub held_safe : (v : Value) → SaysTrue (has_test store x v) → IsSafe (get store x v)
    held_safe (VRecord es) h = value_safe (entry_at x es) h
    held_safe (VEntity u) h = entity_safe (entity_at store u) h
    held_safe v h = absurd h

    pub get_safe : (b t : Ty) (r k : Bool) (v : Value) → Joins s b → HasType b v
        → attribute_type s b x ≡ Some (t, r) → (k ≡ true → SaysTrue (has_test store x v)) → (r || k) ≡ true
        → IsSafe (get store x v)
    get_safe b t r k v j h e f g =
        or_cases r k (IsSafe (get store x v)) (subst (λ f. GetFits f (get store x v)) e (got b v j h)).1
        (λ n. held_safe v (f n)) g

    required_there : (f : Option (Ty × Bool)) (t : Ty) (o : Option Value) → AttrAt f o → f ≡ Some (t, true) → is_some o ≡ true
    required_there f t (Some v) h e = refl
    required_there f t None h e =
        let n : IsTrue (not true) = subst (λ g. AttrAt g None) e h in
        cc

    -- a required attribute of a record is there
    pub required_has : (b t : Ty) (v : Value) → is_record b ≡ true → HasType b v
        → attribute_type s b x ≡ Some (t, true) → SaysTrue (has_test store x v)
    required_has (TRecord xs o) t (VRecord es) i h e = required_there (find_attr x xs) t (entry_at x es) (found_at x xs es h.0) e
    required_has (TRecord xs o) t v i h e = absurd h
    required_has b t v i h e = cc

    -- `has` on a record or an entity is true or false
    object_says : (v : Value) → IsObject v → (c : Bool) × (has_test store x v ≡ Says c)
    object_says (VRecord es) h = (is_some (entry_at x es), refl)
    object_says (VEntity u) h = (entity_has (entity_at store u) x, refl)
    object_says v h = absurd h

    pub has_says : (b : Ty) (v : Value) → accepts object_types b ≡ true → HasType b v → (c : Bool) × (has_test store x v ≡ Says c)
    has_says b v a h = object_says v (object_of b v a h)

    value_not_wrong : (o : Option Value) → attribute_value o ≡ Fails TypeFailure → ⊥
    value_not_wrong None e = cc
    value_not_wrong (Some v) e = cc

    entity_not_wrong : (q : Option Entity) → entity_get q x ≡ Fails TypeFailure → ⊥
    entity_not_wrong None e = cc
    entity_not_wrong (Some y) e = value_not_wrong (entry_at x y.attributes) e

    object_not_wrong : (v : Value) → IsObject v → get store x v ≡ Fails TypeFailure → ⊥
    object_not_wrong (VRecord es) h e = value_not_wrong (entry_at x es) e
    object_not_wrong (VEntity u) h e = entity_not_wrong (entity_at store u) e
    object_not_wrong v h e = absurd h

    -- `.` on a record or an entity does not fail for a wrong kind
    pub get_not_wrong : (b : Ty) (v : Value) → accepts object_types b ≡ true → HasType b v → get store x v ≡ Fails TypeFailure → ⊥
    get_not_wrong b v a h e = object_not_wrong v (object_of b v a h) e

    entity_may : (ps : List Path) (u : Uid) (q : Option Entity) → entity_at store u ≡ q
        → is_among ps u.entity_type ≡ true → entity_has q x ≡ true → list_any (may_declare s.types x) ps ≡ true
    entity_may ps u None e m h = cc
    entity_may ps u (Some y) e m h =
        one_may ps u.entity_type m
        (declaration_may (type_named s.types u.entity_type) (not (knows_type s.types u.entity_type)) u y
        (conforms.entities u y e) h)

    record_may : (xs : Attrs) (o : Bool) (es : Entries) → HasType (TRecord xs o) (VRecord es)
        → is_some (entry_at x es) ≡ true → (is_some (find_attr x xs) || o) ≡ true
    record_may xs true es h e = or_right (is_some (find_attr x xs)) true refl
    record_may xs false es h e = or_left (is_some (find_attr x xs)) false (named_found x xs (key_named x (attr_names xs) es h.1 e))

    -- an attribute that a value has is one that its type may have
    pub has_may : (b : Ty) (v : Value) → HasType b v → SaysTrue (has_test store x v) → may_have s b x ≡ true
    has_may (TRecord xs o) (VRecord es) h e = record_may xs o es h e
    has_may (TEntity ps) (VEntity u) h e = entity_may ps u (entity_at store u) refl h e
    has_may TAnyEntity v h e = refl
    has_may TNever v h e = refl
    has_may b (VRecord es) h e = absurd h
    has_may b (VEntity u) h e = absurd h
    has_may b v h e = absurd e

    pub has_not : (b : Ty) (v : Value) → accepts object_types b ≡ true → HasType b v → may_have s b x ≡ false
        → has_test store x v ≡ Says false
    has_not b v a h n = by (has_says b v a h)
      where
        by : (c : Bool) × (has_test store x v ≡ Says c) → has_test store x v ≡ Says false
        by c = said c.0 c.1
          where
            said : (d : Bool) → has_test store x v ≡ Says d → has_test store x v ≡ Says false
            said false e = e
            said true e =
                let m : may_have s b x ≡ true = has_may b v h (subst SaysTrue (sym e) refl) in
                cc
