-- Values of attributes in cells, and tests of them.
use Rattle.std.proofs.Common.{◌≡◌, Bool, true, false, List, [], ◌∷◌, Option, Some, None, is_some, refl, ap, ◌∙◌}
use Rattle.cedar_types.specs.Lemmas.Comparisons.{path_same}
use Rattle.cedar_types.specs.Names.{Text, Path, path_eq}
use Rattle.cedar_types.specs.Schemas.{DeclaredType, Schema, TypeKind, StandardKind, EnumKind, ExternalKind}
use Rattle.cedar_types.specs.Types.{Ty, TNever, TBool, TLong, TString, TSet, TAnySet, TRecord, TEntity, TAnyEntity, TExtension, sole}
use Rattle.cedar_types.specs.Types.Lookups.{kind_attribute, declared_kind_attribute}
use Rattle.cedar_types.specs.Values.{Value, VBool, VLong, VString, VEntity, entry_at, HasType}
use Rattle.cedar_types.specs.Values.Stores.{Entity, FitsKind, FitsDeclaration}
use Rattle.cedar_types.specs.Names.{Uid}
use Rattle.cedar_typing.proofs.Basics.{or_cases}
use Rattle.cedar_typing.proofs.Bounds.Attributes.{AttrAt, found_at}
use Rattle.cedar_typing.specs.Evaluation.Eval.{attribute_value}
use Rattle.cedar_typing.specs.Evaluation.World.{Failure, Outcome, Gives, Fails}
use Rattle.cedar_where.specs.Compiled.{Kind, KBool, KEntity, Term, entity_kind, column_kind, has_value}
use Rattle.cedar_where.specs.Rows as rows
use Rattle.cedar_where.specs.Sql.{Cell, Null, Data, value, not_null_cell, uid}
use Rattle.cedar_where.proofs.Parts.{there, gone, Agree, OnTerm, IsRight, not_null_held}

-- ---- an entity's attribute is as its type declares it

module _ (s : Schema) (x : Text) where
  kind_at : (k : TypeKind) (p : Path) (e : Entity) → FitsKind s.types p k e
      → AttrAt (kind_attribute x k) (entry_at x e.attributes)
  kind_at (StandardKind attrs tags) p e h = found_at x attrs e.attributes h.attributes.0
  kind_at (EnumKind ids) p e h = tt
  kind_at ExternalKind p e h = tt

  pub declaration_at : (t : Option DeclaredType) (u : Uid) (e : Entity) → FitsDeclaration s u t e
      → AttrAt (declared_kind_attribute x t) (entry_at x e.attributes)
  declaration_at None u e h = tt
  declaration_at (Some t) u e h = kind_at t.kind u.entity_type e h

-- ---- a column holds the entity's value

-- for an attribute that has a column
abbrev pub OfKind : Bool → Outcome → Cell → Option Kind → Type 0
OfKind r o c None = Unit {0}
OfKind r o c (Some k) = Agree k r o c

typed_entity : (r : Bool) (ps : List Path) (v : Value) → HasType (TEntity ps) v
    → OfKind r (Gives v) (rows.cell_of v) (entity_kind (sole ps))
typed_entity r [] v h = tt
typed_entity r (p ∷ []) (VEntity u) h =
    or_cases (path_eq u.entity_type p) false (Agree (KEntity p) r (Gives (VEntity u)) (rows.cell_of (VEntity u)))
    (λ e. (there u.eid, λ i. Gives (VEntity (uid (path_same.to u.entity_type p e i) u.eid)), refl)) (λ e. cc) h
typed_entity r (p ∷ []) v h = absurd h
typed_entity r (p ∷ q ∷ ps) v h = tt

pub typed_value : (r : Bool) (t : Ty) (v : Value) → HasType t v → OfKind r (Gives v) (rows.cell_of v) (column_kind t)
typed_value r TNever v h = tt
typed_value r (TBool k) (VBool b) h = (there b, refl, refl)
typed_value r (TBool k) v h = absurd h
typed_value r TLong (VLong n) h = (there n, refl, refl)
typed_value r TLong v h = absurd h
typed_value r TString (VString t) h = (there t, refl, refl)
typed_value r TString v h = absurd h
typed_value r (TSet t) v h = tt
typed_value r TAnySet v h = tt
typed_value r (TRecord xs o) v h = tt
typed_value r (TEntity ps) v h = typed_entity r ps v h
typed_value r TAnyEntity v h = tt
typed_value r (TExtension n) v h = tt

pub absent : (f : Failure) (r : Bool) → r ≡ false → (k : Option Kind) → OfKind r (Fails f) Null k
absent f r e None = tt
absent f r e (Some k) = (gone f e, refl, refl)

-- ---- `has`

-- whether there is a value
abbrev pub gives : Outcome → Bool
gives (Gives v) = true
gives (Fails f) = false

pub some_gives : (v : Option Value) → is_some v ≡ gives (attribute_value v)
some_gives None = refl
some_gives (Some v) = refl

pub has_answer : (k : Kind) (r : Bool) (o : Outcome) (c : Cell) → Agree k r o c
    → Agree KBool true (Gives (VBool (gives o))) (not_null_cell c)
has_answer k r o c (there w, p, q) =
    (there true, ap (λ z. Gives (VBool (gives z))) p, ap not_null_cell q ∙ not_null_held k w)
has_answer k r o c (gone f n, p, q) = (there false, ap (λ z. Gives (VBool (gives z))) p, ap not_null_cell q)

pub has_right : (d : Data) (y : Option Term) (o : Outcome) → OnTerm (IsRight d o) y
    → OnTerm (IsRight d (Gives (VBool (gives o)))) (has_value y)
has_right d None o h = tt
has_right d (Some a) o h = has_answer a.kind a.is_total o (value d a.sql) h
