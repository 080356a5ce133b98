-- Store tests: whether a store conforms.
use Rattle.std.specs.Prelude.{◌≡◌, Bool, true, false, not, ◌&&◌, ◌||◌, List, [], ◌∷◌, Option, Some, None}
use Rattle.std.specs.List.{list_all}
use Rattle.std.specs.Option.{is_some}
use Rattle.cedar_types.specs.Names.{Path, Uid, uid_eq}
use Rattle.cedar_types.specs.Types.{Ty, Attrs, attr_names}
use Rattle.cedar_types.specs.Schemas.{TypeKind, StandardKind, EnumKind, ExternalKind, DeclaredType, DeclaredAction, Schema, uid_is_among}
use Rattle.cedar_types.specs.Schemas.{has_repeat, is_among, type_named, declares_type, declares_action, descendants_of}
use Rattle.cedar_types.specs.Values.{Entries, no_entries, more_entries}
use Rattle.cedar_types.specs.Values.Stores.{Entity, Store, entity_at, declares_ancestor}
use Rattle.cedar_conformance.specs.Tests.{all_entries, keys_among, has_type, have_attrs}

abbrev pub is_empty_record : Entries → Bool
is_empty_record no_entries = true
is_empty_record (more_entries k v es) = false

abbrev pub are_no_ids : List Uid → Bool
are_no_ids [] = true
are_no_ids (u ∷ us) = false

-- tags have their declared type; if no type is declared, there are none
abbrev pub tags_fit : Option Ty → Entries → Bool
tags_fit None es = is_empty_record es
tags_fit (Some t) es = all_entries (has_type t) es

-- the ancestor's type is declared, and the type p is a descendant of it
abbrev pub ancestor_fits : List DeclaredType → Path → Uid → Bool
ancestor_fits ts p v = declares_type ts v.entity_type && is_among (descendants_of ts v.entity_type) p

-- an entity has no attributes, no ancestors and no tags
abbrev pub is_bare : Entity → Bool
is_bare e = is_empty_record e.attributes && (are_no_ids e.ancestors && is_empty_record e.tags)

abbrev pub fits_standard : List DeclaredType → Path → Attrs → Option Ty → Entity → Bool
fits_standard ts p attrs tags e =
    (have_attrs attrs e.attributes && keys_among (attr_names attrs) e.attributes)
    && (tags_fit tags e.tags && list_all (ancestor_fits ts p) e.ancestors)

abbrev pub fits_kind : List DeclaredType → Path → TypeKind → Entity → Bool
fits_kind ts p (StandardKind attrs tags) e = fits_standard ts p attrs tags e
fits_kind ts p (EnumKind ids) e = is_bare e
fits_kind ts p ExternalKind e = true

-- the entity has the action as an ancestor, if u is a descendant of it
abbrev pub has_its_ancestor : Uid → Entity → DeclaredAction → Bool
has_its_ancestor u e a = not (uid_is_among a.descendants u) || uid_is_among e.ancestors a.name

-- an action has just its declared ancestors, no attributes and no tags
abbrev pub fits_action : List DeclaredAction → Uid → Entity → Bool
fits_action acts u e =
    (is_empty_record e.attributes && is_empty_record e.tags)
    && (list_all (declares_ancestor acts u) e.ancestors && list_all (has_its_ancestor u e) acts)

abbrev pub fits_declaration : Schema → Uid → Option DeclaredType → Entity → Bool
fits_declaration s u None e = declares_action s.actions u && fits_action s.actions u e
fits_declaration s u (Some t) e = fits_kind s.types u.entity_type t.kind e

-- the entity fits the declaration of its type, or is a declared action
abbrev pub fits_schema : Schema → Uid × Entity → Bool
fits_schema s e = fits_declaration s e.0 (type_named s.types e.0.entity_type) e.1

-- each entity fits the schema
abbrev pub each_fits : Schema → Store → Bool
each_fits s store = list_all (fits_schema s) store

-- each of these actions is in the store
abbrev pub are_there : List DeclaredAction → Store → Bool
are_there acts store = list_all (λ a. is_some (entity_at store a.name)) acts

-- each entity fits, and each declared action is in the store
abbrev pub store_fits : Schema → Store → Bool
store_fits s store = each_fits s store && are_there s.actions store

-- no two entries have one id
abbrev pub IsApart : Store → Type 0
IsApart store = has_repeat (λ x y. uid_eq x.0 y.0) store ≡ false
