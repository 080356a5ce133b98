-- Stores, and the stores that conform to a schema.
use Rattle.std.specs.Prelude.{◌≡◌, Bool, true, false, ◌&&◌, List, [], ◌∷◌, Option, Some, None, if◌then◌else◌, IsTrue}
use Rattle.std.specs.List.{list_any}
use Rattle.cedar_types.specs.Names.{Path, Uid, uid_eq}
use Rattle.cedar_types.specs.Types.{Ty, TRecord, Attrs}
use Rattle.cedar_types.specs.Schemas.{TypeKind, StandardKind, EnumKind, ExternalKind, DeclaredType, DeclaredAction, Schema, uid_is_among}
use Rattle.cedar_types.specs.Schemas.{is_among, type_named, declares_type, declares_action, descendants_of, has_fault, may_be_in}
use Rattle.cedar_types.specs.Values.{VRecord, Entries, no_entries, AllEntries, HasType}

-- the data stored of an entity
pub record Entity : Type 0 where
  pub attributes : Entries
  pub ancestors : List Uid
  pub tags : Entries

-- a finite map from ids to entities: of several entries of one id the first counts
abbrev pub Store : Type 0
Store = List (Uid × Entity)

-- the entity that a store holds under an id
abbrev pub entity_at : Store → Uid → Option Entity
entity_at [] u = None
entity_at (e ∷ es) u = if uid_eq u e.0 then Some e.1 else entity_at es u

-- tags, if they are declared, have their type; if they are not, there are none
abbrev pub TagsFit : Option Ty → Entries → Type 0
TagsFit None es = es ≡ no_entries
TagsFit (Some t) es = AllEntries (HasType t) es

-- each ancestor's type is a declared one of which the type p is a descendant
abbrev pub AncestorsFit : List DeclaredType → Path → List Uid → Type 0
AncestorsFit ts p vs =
    (v : Uid)
    → IsTrue (uid_is_among vs v)
    → IsTrue (declares_type ts v.entity_type && is_among (descendants_of ts v.entity_type) p)

-- the entity is present without any data
pub record IsBare (e : Entity) : Type 0 where
  pub attributes : e.attributes ≡ no_entries
  pub ancestors : e.ancestors ≡ []
  pub tags : e.tags ≡ no_entries

-- an entity of a standard type has only declared attributes and all required ones, each of its
-- type, tags of the declared type, and ancestors of which its type is a descendant
pub record FitsStandard (ts : List DeclaredType) (p : Path) (attrs : Attrs) (tags : Option Ty)
    (e : Entity) : Type 0 where
  pub attributes : HasType (TRecord attrs false) (VRecord e.attributes)
  pub tagged : TagsFit tags e.tags
  pub ancestors : AncestorsFit ts p e.ancestors

-- an entity of an enumerated type is bare; one of an external type meets no demand
abbrev pub FitsKind : List DeclaredType → Path → TypeKind → Entity → Type 0
FitsKind ts p (StandardKind attrs tags) e = FitsStandard ts p attrs tags e
FitsKind ts p (EnumKind ids) e = IsBare e
FitsKind ts p ExternalKind e = Unit {0}

-- whether v is an action of which u is a descendant
abbrev pub declares_ancestor : List DeclaredAction → Uid → Uid → Bool
declares_ancestor acts u v = list_any (λ a. uid_eq v a.name && uid_is_among a.descendants u) acts

-- an action has exactly its declared ancestors, no attributes and no tags
pub record FitsAction (acts : List DeclaredAction) (u : Uid) (e : Entity) : Type 0 where
  pub attributes : e.attributes ≡ no_entries
  pub ancestors : (v : Uid) → uid_is_among e.ancestors v ≡ declares_ancestor acts u v
  pub tags : e.tags ≡ no_entries

-- an entity of no declared type is a declared action
abbrev pub FitsDeclaration : Schema → Uid → Option DeclaredType → Entity → Type 0
FitsDeclaration s u None e = IsTrue (declares_action s.actions u) × FitsAction s.actions u e
FitsDeclaration s u (Some t) e = FitsKind s.types u.entity_type t.kind e

-- each entity fits the declaration of its type, or is a declared action; and each declared action
-- is present
pub record ConformingStore (s : Schema) (store : Store) : Type 0 where
  pub entities : (u : Uid) (e : Entity) → entity_at store u ≡ Some e
      → FitsDeclaration s u (type_named s.types u.entity_type) e
  pub actions : (u : Uid) → IsTrue (declares_action s.actions u)
      → (e : Entity) × (entity_at store u ≡ Some e)

-- v is an ancestor of u in the store
abbrev pub IsStoredAncestor : Store → Uid → Uid → Type 0
IsStoredAncestor store u v =
    (e : Entity) × (entity_at store u ≡ Some e) × IsTrue (uid_is_among e.ancestors v)

-- no conforming store has an entity of one type in one of another if a schema without faults denies
-- it
abbrev pub MembershipsAreAllowed : Type 0
MembershipsAreAllowed =
    (s : Schema) → has_fault s ≡ false
    → (store : Store) → ConformingStore s store
    → (u v : Uid) → IsStoredAncestor store u v
    → may_be_in s u.entity_type v.entity_type ≡ true
