-- The attributes, the tags and the entity literals of a type, in a schema.
use Rattle.std.specs.Prelude.{◌≡◌, Bool, true, false, ◌&&◌, ◌||◌, List, [], ◌∷◌, Option, Some, None, option_map, is_some, fold, if◌then◌else◌}
use Rattle.std.specs.List.{list_any, flat_map}
use Rattle.cedar_types.specs.Names.{Text, Path, Uid, is_action_path}
use Rattle.cedar_types.specs.Types.{ty_of, Ty, TNever, TBool, TLong, TString, TSet, TAnySet, TRecord, TEntity, TAnyEntity, TExtension}
use Rattle.cedar_types.specs.Types.{Attrs, no_attrs}
use Rattle.cedar_types.specs.Types.Bounds.{find_attr, lub, common_attrs}
use Rattle.cedar_types.specs.Types.Order.{in_order}
use Rattle.cedar_types.specs.Schemas.{TypeKind, StandardKind, EnumKind, ExternalKind, DeclaredType, Schema, type_named, declares_type}
use Rattle.cedar_types.specs.Schemas.{declares_action, is_open_type}
use Rattle.cedar_types.specs.Schemas.Formed.{has_formed_types}
use Rattle.cedar_types.specs.declared.base.types.AttributeType.{AttributeType}
use Rattle.cedar_types.specs.declared.base.types.ValidationMode.TheVariants.{Permissive}

-- ---- attributes

-- an attribute's type, and whether it is required
abbrev pub attribute_view : AttributeType → Ty × Bool
attribute_view a = (ty_of a.attr_type, a.is_required)

-- only standard types declare attributes
abbrev pub kind_attribute : Text → TypeKind → Option (Ty × Bool)
kind_attribute a (StandardKind attrs tags) = find_attr a attrs
kind_attribute a (EnumKind ids) = None
kind_attribute a ExternalKind = None

abbrev pub declared_kind_attribute : Text → Option DeclaredType → Option (Ty × Bool)
declared_kind_attribute a None = None
declared_kind_attribute a (Some t) = kind_attribute a t.kind

-- the attribute that the type of this name declares: its type, and whether it is required
abbrev pub declared_attribute : List DeclaredType → Text → Path → Option (Ty × Bool)
declared_attribute ts a p = declared_kind_attribute a (type_named ts p)

-- the joint attribute of two types: its type is their bound in Permissive, if there is one, and it
-- is required if both are
abbrev pub joined_attribute : Option (Ty × Bool) → Option (Ty × Bool) → Option (Ty × Bool)
joined_attribute None y = None
joined_attribute (Some x) None = None
joined_attribute (Some x) (Some y) = option_map (λ t. (t, x.1 && y.1)) (lub Permissive x.0 y.0)

-- the joint attribute of all of the types, from the first on
abbrev pub types_attribute : List DeclaredType → Text → List Path → Option (Ty × Bool)
types_attribute ts a [] = None
types_attribute ts a (p ∷ ps) =
    fold (λ found q. joined_attribute found (declared_attribute ts a q))
    (declared_attribute ts a p) ps

-- the attribute of a type: a record's own, and the joint one of some entity types; no other type
-- has one
abbrev pub attribute_type : Schema → Ty → Text → Option (Ty × Bool)
attribute_type s TNever a = None
attribute_type s (TBool k) a = None
attribute_type s TLong a = None
attribute_type s TString a = None
attribute_type s (TSet t) a = None
attribute_type s TAnySet a = None
attribute_type s (TRecord xs o) a = find_attr a xs
attribute_type s (TEntity ps) a = types_attribute s.types a ps
attribute_type s TAnyEntity a = None
attribute_type s (TExtension n) a = None

-- ---- all attributes of a type

-- the attributes that a kind of types declares
abbrev pub kind_attributes : TypeKind → Attrs
kind_attributes (StandardKind attrs tags) = attrs
kind_attributes (EnumKind ids) = no_attrs
kind_attributes ExternalKind = no_attrs

abbrev pub declared_kind_attributes : Option DeclaredType → Attrs
declared_kind_attributes None = no_attrs
declared_kind_attributes (Some t) = kind_attributes t.kind

-- the attributes that the type of this name declares
abbrev pub declared_attributes : List DeclaredType → Path → Attrs
declared_attributes ts p = declared_kind_attributes (type_named ts p)

-- the attributes that all of the types declare, from the first on, with the bounds of their types
-- in Permissive
abbrev pub types_attributes : List DeclaredType → List Path → Attrs
types_attributes ts [] = no_attrs
types_attributes ts (p ∷ ps) =
    fold (λ found q. common_attrs Permissive found (declared_attributes ts q))
    (declared_attributes ts p) ps

-- the attributes of a type: a record's own, and the joint ones of some entity types; no other type
-- has any
abbrev pub attributes_in : Schema → Ty → Attrs
attributes_in s TNever = no_attrs
attributes_in s (TBool k) = no_attrs
attributes_in s TLong = no_attrs
attributes_in s TString = no_attrs
attributes_in s (TSet t) = no_attrs
attributes_in s TAnySet = no_attrs
attributes_in s (TRecord xs o) = xs
attributes_in s (TEntity ps) = types_attributes s.types ps
attributes_in s TAnyEntity = no_attrs
attributes_in s (TExtension n) = no_attrs

-- a look-up in the attributes of a type gives its attribute of that name, if the schema's types are
-- well-formed
abbrev pub AttributesAreLookedUp : Type 0
AttributesAreLookedUp =
    (s : Schema) (t : Ty) (a : Text) → has_formed_types s ≡ true
    → find_attr a (attributes_in s t) ≡ attribute_type s t a

-- ---- the attributes that a value may have

-- a type declares the attribute, or nothing is known of the type
abbrev pub may_declare : List DeclaredType → Text → Path → Bool
may_declare ts a p = is_open_type ts p || is_some (declared_attribute ts a p)

-- whether a value of the type may have the attribute: of Never and of any entity it may; a record
-- may if it names the attribute or is open; an entity of some types if one of them may
abbrev pub may_have : Schema → Ty → Text → Bool
may_have s TNever a = true
may_have s (TBool k) a = false
may_have s TLong a = false
may_have s TString a = false
may_have s (TSet t) a = false
may_have s TAnySet a = false
may_have s (TRecord xs o) a = is_some (find_attr a xs) || o
may_have s (TEntity ps) a = list_any (may_declare s.types a) ps
may_have s TAnyEntity a = true
may_have s (TExtension n) a = false

-- ---- tags

-- only standard types declare tags, all of one type
abbrev pub kind_tags : TypeKind → List Ty
kind_tags (StandardKind attrs (Some t)) = t ∷ []
kind_tags (StandardKind attrs None) = []
kind_tags (EnumKind ids) = []
kind_tags ExternalKind = []

abbrev pub declared_tags : Option DeclaredType → List Ty
declared_tags None = []
declared_tags (Some t) = kind_tags t.kind

-- the types of the tags that some entity types declare
abbrev pub tags_of_types : List DeclaredType → List Path → List Ty
tags_of_types ts ps = flat_map (λ p. declared_tags (type_named ts p)) ps

-- the types of the tags that any type declares
abbrev pub tags_of_any : List DeclaredType → List Ty
tags_of_any ts = flat_map (λ t. kind_tags t.kind) ts

-- the types that a tag of a value may have, ascending: for some entity types those that they
-- declare, for any entity those that any type declares
abbrev pub tag_types : Schema → Ty → List Ty
tag_types s (TEntity ps) = in_order (tags_of_types s.types ps)
tag_types s TAnyEntity = in_order (tags_of_any s.types)
tag_types s t = []

-- ---- entity literals

-- an action must be declared itself, for another entity its type must be
abbrev pub declares_entity : Schema → Uid → Bool
declares_entity s u =
    if is_action_path u.entity_type then declares_action s.actions u
    else declares_type s.types u.entity_type

-- the type of an entity literal, if there is one
abbrev pub literal_type : Schema → Uid → Option Ty
literal_type s u = if declares_entity s u then Some (TEntity (u.entity_type ∷ [])) else None
