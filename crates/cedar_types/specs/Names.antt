-- Names, entity types and ids of entities as plain data.
use Rattle.std.specs.Prelude.{ℕ, Bool, ◌&&◌, List, Option, map, codes, nat_eq}
use Rattle.std.specs.Cmp.Lexicographic.{pointwise, slice_cmp}
use Rattle.std.specs.Ordering.{nat_cmp, ordering_then}
use Rattle.std.specs.declared.cmp.Ordering.{Ordering}
use Rattle.std.specs.Rc.{rc_str_bytes}
use Rattle.std.specs.declared.alloc.Global.{Global}
use Rattle.std.specs.declared.rc.RcStr.{RcStr}
use Rattle.cedar_types.specs.declared.base.location.Loc.{Loc}
use Rattle.cedar_types.specs.declared.base.names.Name.{Name}
use Rattle.cedar_types.specs.declared.base.names.entities.EntityType.{EntityType}
use Rattle.cedar_types.specs.declared.base.names.entities.EntityUID.{EntityUID}
pub mod Comparisons
pub mod Ascending

-- a text, as its bytes
abbrev pub Text : Type 0
Text = List ℕ

-- a name: the parts of its path, and its last part
pub record Path : Type 0 where
  pub path : List Text
  pub basename : Text

-- the id of an entity
pub record Uid : Type 0 where
  pub entity_type : Path
  pub eid : Text

-- an entity's type as it was written, with its place
pub record PlacedType : Type 0 where
  pub name : Path
  pub place : Option Loc

-- an entity's id as it was written, with its place and that of its type
pub record PlacedUid : Type 0 where
  pub uid : Uid
  pub place : Option Loc
  pub type_place : Option Loc

abbrev pub text_of : RcStr Global → Text
text_of s = rc_str_bytes s

abbrev pub path_of : Name → Path
path_of n = record { path = map text_of n.path.items; basename = text_of n.basename }

abbrev pub type_of : EntityType → Path
type_of t = path_of t.name

abbrev pub uid_of : EntityUID → Uid
uid_of u = record { entity_type = type_of u.entity_type; eid = text_of u.eid }

abbrev pub placed_type : EntityType → PlacedType
placed_type t = record { name = type_of t; place = t.loc }

abbrev pub placed_uid : EntityUID → PlacedUid
placed_uid u = record { uid = uid_of u; place = u.loc; type_place = u.entity_type.loc }

-- the type of an action: its last part is `Action`
abbrev pub is_action_path : Path → Bool
is_action_path p = pointwise nat_eq p.basename (codes "Action")

-- equality of texts, names and ids, as a test
abbrev pub text_eq : Text → Text → Bool
text_eq = pointwise nat_eq

abbrev pub texts_eq : List Text → List Text → Bool
texts_eq = pointwise text_eq

abbrev pub path_eq : Path → Path → Bool
path_eq p q = texts_eq p.path q.path && text_eq p.basename q.basename

abbrev pub uid_eq : Uid → Uid → Bool
uid_eq u v = path_eq u.entity_type v.entity_type && text_eq u.eid v.eid

-- the order of texts: byte by byte
abbrev pub text_cmp : Text → Text → Ordering
text_cmp = slice_cmp nat_cmp

-- the order of names: by the parts of the path first, then by the last part
abbrev pub path_cmp : Path → Path → Ordering
path_cmp p q = ordering_then (slice_cmp text_cmp p.path q.path) (text_cmp p.basename q.basename)

-- the order of ids: by the type first, then by the eid
abbrev pub uid_cmp : Uid → Uid → Ordering
uid_cmp u v = ordering_then (path_cmp u.entity_type v.entity_type) (text_cmp u.eid v.eid)
