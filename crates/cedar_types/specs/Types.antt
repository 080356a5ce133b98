-- Types as plain data.
use Rattle.std.specs.Prelude.{Bool, true, false, ◌&&◌, List, [], ◌∷◌, map, Option, Some, None}
use Rattle.std.specs.BTreeSet.{BTreeSet}
use Rattle.std.specs.declared.alloc.Global.{Global}
use Rattle.std.specs.declared.rc.RcStr.{RcStr}
use Rattle.cedar_types.specs.Names.{Text, Path, text_of, path_of, type_of}
use Rattle.cedar_types.specs.Names.Ascending.{has_members, texts_ascending, paths_ascending}
use Rattle.cedar_types.specs.declared.base.names.entities.EntityType.{EntityType}
use Rattle.cedar_types.specs.declared.base.types.entity_sets.EntityLUB.{EntityLUB}
use Rattle.cedar_types.specs.declared.base.types.BoolType.{BoolType}
use Rattle.cedar_types.specs.declared.base.types.EntityKind.{EntityKind}
use Rattle.cedar_types.specs.declared.base.types.EntityKind.TheVariants as kind
use Rattle.cedar_types.specs.declared.base.types.OpenTag.{OpenTag}
use Rattle.cedar_types.specs.declared.base.types.OpenTag.TheVariants.{OpenAttributes, ClosedAttributes}
use Rattle.cedar_types.specs.declared.base.types.AttributeType.{AttributeType, fold-AttributeType}
use Rattle.cedar_types.specs.declared.base.types.Attributes.{Attributes, fold-Attributes}
use Rattle.cedar_types.specs.declared.base.types.CedarType.{CedarType, fold-CedarType}
use Rattle.cedar_types.specs.declared.base.types.CedarType.TheOpen as layer
use Rattle.cedar_types.specs.declared.base.types.CedarType.TheOpen.{CedarType-F, AttributeType-F, Attributes-F}
pub mod Bounds
pub mod BoundLaws
pub mod Order
pub mod Lookups

mutual
  pub data Ty : Type 0 where
    TNever : Ty
    TBool : BoolType → Ty
    TLong : Ty
    TString : Ty
    TSet : Ty → Ty
    TAnySet : Ty
    -- the attributes, and whether the record may have others
    TRecord : Attrs → Bool → Ty
    -- some entity types
    TEntity : List Path → Ty
    TAnyEntity : Ty
    TExtension : Path → Ty

  -- attributes: name, type, whether required, and the others
  pub data Attrs : Type 0 where
    no_attrs : Attrs
    attr : Text → Ty → Bool → Attrs → Attrs

-- whether a record is open
abbrev pub is_open_tag : OpenTag → Bool
is_open_tag OpenAttributes = true
is_open_tag ClosedAttributes = false

-- the names of some entity types, ascending
abbrev pub types_of : BTreeSet EntityType → List Path
types_of s = map type_of s.keys

-- the names of a set that is never empty
unfoldable pub lub_of : EntityLUB → List Path
lub_of s = types_of s.lub_elements.value

abbrev pub kind_of : EntityKind → Ty
kind_of (kind.Entity s) = TEntity (lub_of s)
kind_of kind.AnyEntity = TAnyEntity

-- attributes from entries by name
abbrev pub attrs_of : List (RcStr Global × (Ty × Bool)) → Attrs
attrs_of [] = no_attrs
attrs_of (e ∷ es) = attr (text_of e.0) e.1.0 e.1.1 (attrs_of es)

-- one layer of a type, over the readings of its parts
abbrev pub ty_step : CedarType-F Ty (Ty × Bool) Attrs → Ty
ty_step layer.Never = TNever
ty_step (layer.Bool k) = TBool k
ty_step layer.Long = TLong
ty_step layer.String = TString
ty_step (layer.Set t) = TSet t.value
ty_step layer.AnySet = TAnySet
ty_step (layer.Record a o) = TRecord a (is_open_tag o)
ty_step (layer.Entity k) = kind_of k
ty_step (layer.Extension n) = TExtension (path_of n.value)

abbrev pub attribute_step : AttributeType-F Ty (Ty × Bool) Attrs → Ty × Bool
attribute_step a = (a.attr_type, a.is_required)

abbrev pub attributes_step : Attributes-F Ty (Ty × Bool) Attrs → Attrs
attributes_step a = attrs_of a.attrs.value.entries

-- a type as plain data
abbrev pub ty_of : CedarType → Ty
ty_of = fold-CedarType Ty (Ty × Bool) Attrs ty_step attribute_step attributes_step

-- an attribute's type, and whether it is required
abbrev pub attribute_of : AttributeType → Ty × Bool
attribute_of = fold-AttributeType Ty (Ty × Bool) Attrs ty_step attribute_step attributes_step

-- the attributes of a record
abbrev pub attributes_of : Attributes → Attrs
attributes_of = fold-Attributes Ty (Ty × Bool) Attrs ty_step attribute_step attributes_step

-- the attributes in some entries of a map
abbrev pub entries_of : List (RcStr Global × AttributeType) → Attrs
entries_of [] = no_attrs
entries_of (e ∷ es) = attr (text_of e.0) (ty_of e.1.attr_type) e.1.is_required (entries_of es)

-- a set of entity types, if it has members
abbrev pub lub_from : List Path → Option (List Path)
lub_from [] = None
lub_from (p ∷ ps) = Some (p ∷ ps)

-- the only member of a list, if there is exactly one
abbrev pub sole : List Path → Option Path
sole [] = None
sole (p ∷ []) = Some p
sole (p ∷ q ∷ ps) = None

-- the names of some attributes
abbrev pub attr_names : Attrs → List Text
attr_names no_attrs = []
attr_names (attr k t r xs) = k ∷ attr_names xs

-- names of attributes and of entity types ascend, each once, and an entity set has a member, at
-- every depth
abbrev mutual
  pub is_well_formed : Ty → Bool
  is_well_formed TNever = true
  is_well_formed (TBool k) = true
  is_well_formed TLong = true
  is_well_formed TString = true
  is_well_formed (TSet t) = is_well_formed t
  is_well_formed TAnySet = true
  is_well_formed (TRecord xs o) = texts_ascending (attr_names xs) && are_well_formed xs
  is_well_formed (TEntity ps) = has_members ps && paths_ascending ps
  is_well_formed TAnyEntity = true
  is_well_formed (TExtension n) = true

  pub are_well_formed : Attrs → Bool
  are_well_formed no_attrs = true
  are_well_formed (attr k t r xs) = is_well_formed t && are_well_formed xs

-- the names in some entries of a map
abbrev pub texts_of : List (RcStr Global × AttributeType) → List Text
texts_of es = map (λ e. text_of e.0) es

-- the attributes xs, and then ys
abbrev pub join_attrs : Attrs → Attrs → Attrs
join_attrs no_attrs ys = ys
join_attrs (attr k t r xs) ys = attr k t r (join_attrs xs ys)
