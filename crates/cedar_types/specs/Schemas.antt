-- The declarations of a schema, and its first fault.
use Rattle.std.specs.Prelude.{Bool, true, false, ◌&&◌, ◌||◌, not, List, [], ◌∷◌, Option, Some, None, if◌then◌else◌, nat_eq, nat_lt, length}
use Rattle.std.specs.List.{list_any, list_all, find}
use Rattle.std.specs.Option.{is_some}
use Rattle.cedar_types.specs.Names.{Text, Path, Uid, is_action_path, uid_eq, path_eq}
use Rattle.cedar_types.specs.Types.{Ty, TNever, TBool, TLong, TString, TSet, TAnySet, TRecord, TEntity, TAnyEntity, TExtension, Attrs, no_attrs, attr}
use Rattle.cedar_types.specs.declared.base.types.BoolType.{BoolType}
use Rattle.cedar_types.specs.declared.base.types.BoolType.TheVariants.{AnyBool, True, False}
use Rattle.cedar_types.specs.declared.base.schema.errors.SchemaError.{SchemaError}
use Rattle.cedar_types.specs.declared.base.schema.errors.SchemaError.TheVariants.{DuplicateEntityType, DuplicateAction, ActionTypeDeclared, NotAnActionType, EmptyEnum, UnknownType, UnknownActionDescendant, VagueType, DescendantsNotClosed}
pub mod Choices
pub mod Declarations
pub mod Formed
pub mod Closures
pub mod Tables
pub mod Contents
pub mod Listings
pub mod References

-- ---- declarations

-- the knowledge of the entities of a type
pub data TypeKind : Type 0 where
  -- their attributes, and the type of their tags if they have any
  StandardKind : Attrs → Option Ty → TypeKind
  -- the ids of its entities
  EnumKind : List Text → TypeKind
  -- nothing is known
  ExternalKind : TypeKind

-- an entity type; its entities may contain entities of its descendants
pub record DeclaredType : Type 0 where
  pub name : Path
  pub descendants : List Path
  pub kind : TypeKind

-- the application of an action: its principals' and resources' types, and its context's type
pub record Application : Type 0 where
  pub principals : List Path
  pub resources : List Path
  pub context : Ty

-- an action; nothing else is known of an external action
pub record DeclaredAction : Type 0 where
  pub name : Uid
  pub descendants : List Uid
  pub applies_to : Option Application

pub record Schema : Type 0 where
  pub types : List DeclaredType
  pub actions : List DeclaredAction

-- ---- look-ups

-- whether an entity type of this name is declared
abbrev pub declares_type : List DeclaredType → Path → Bool
declares_type ts p = list_any (λ t. path_eq p t.name) ts

-- whether the action is declared
abbrev pub declares_action : List DeclaredAction → Uid → Bool
declares_action acts u = list_any (λ a. uid_eq u a.name) acts

-- a type is known if it is declared, or has the name of an action's type
abbrev pub knows_type : List DeclaredType → Path → Bool
knows_type ts p = is_action_path p || declares_type ts p

-- the declared type of this name
abbrev pub type_named : List DeclaredType → Path → Option DeclaredType
type_named ts p = find (λ t. path_eq p t.name) ts

-- the declared action
abbrev pub action_named : List DeclaredAction → Uid → Option DeclaredAction
action_named acts u = find (λ a. uid_eq u a.name) acts

abbrev pub type_descendants : Option DeclaredType → List Path
type_descendants None = []
type_descendants (Some t) = t.descendants

abbrev pub action_descendants : Option DeclaredAction → List Uid
action_descendants None = []
action_descendants (Some a) = a.descendants

-- the descendants of the type of this name; none if it is not declared
abbrev pub descendants_of : List DeclaredType → Path → List Path
descendants_of ts p = type_descendants (type_named ts p)

-- the descendants of the action; none if it is not declared
abbrev pub descendants_of_action : List DeclaredAction → Uid → List Uid
descendants_of_action acts u = action_descendants (action_named acts u)

-- ---- names that are declared twice, or that may not be declared

-- two elements are equal by the test `same`
abbrev pub has_repeat : {X : Type 0} → (X → X → Bool) → List X → Bool
has_repeat same [] = false
has_repeat same (x ∷ xs) = list_any (same x) xs || has_repeat same xs

-- a type is declared twice
abbrev pub repeats_type : List DeclaredType → Bool
repeats_type ts = has_repeat (λ t u. path_eq t.name u.name) ts

-- an action is declared twice
abbrev pub repeats_action : List DeclaredAction → Bool
repeats_action acts = has_repeat (λ a b. uid_eq a.name b.name) acts

-- an entity type has the name of an action's type
abbrev pub declares_action_type : List DeclaredType → Bool
declares_action_type ts = list_any (λ t. is_action_path t.name) ts

-- each action's id is of an action's type
abbrev pub are_actions : List DeclaredAction → Bool
are_actions acts = list_all (λ a. is_action_path a.name.entity_type) acts

abbrev pub is_empty_enum : TypeKind → Bool
is_empty_enum (StandardKind attrs tags) = false
is_empty_enum (EnumKind ids) = nat_eq (length ids) 0
is_empty_enum ExternalKind = false

-- an enumerated type has no members
abbrev pub has_empty_enum : List DeclaredType → Bool
has_empty_enum ts = list_any (λ t. is_empty_enum t.kind) ts

-- ---- the types that declarations name

abbrev mutual
  -- each entity type that a type names, at any depth, passes
  pub names_pass : (Path → Bool) → Ty → Bool
  names_pass known TNever = true
  names_pass known (TBool k) = true
  names_pass known TLong = true
  names_pass known TString = true
  names_pass known (TSet t) = names_pass known t
  names_pass known TAnySet = true
  names_pass known (TRecord xs o) = attr_names_pass known xs
  names_pass known (TEntity ps) = list_all known ps
  names_pass known TAnyEntity = true
  names_pass known (TExtension n) = true

  pub attr_names_pass : (Path → Bool) → Attrs → Bool
  attr_names_pass known no_attrs = true
  attr_names_pass known (attr k t r xs) = names_pass known t && attr_names_pass known xs

-- the type of the tags passes, if there are tags
abbrev pub tags_pass : (Ty → Bool) → Option Ty → Bool
tags_pass p None = true
tags_pass p (Some t) = p t

abbrev pub kind_names_pass : (Path → Bool) → TypeKind → Bool
kind_names_pass known (StandardKind attrs tags) =
    attr_names_pass known attrs && tags_pass (names_pass known) tags
kind_names_pass known (EnumKind ids) = true
kind_names_pass known ExternalKind = true

-- the types that a declaration names in descendants, attributes and tags are known
abbrev pub type_is_known : List DeclaredType → DeclaredType → Bool
type_is_known ts t =
    list_all (knows_type ts) t.descendants && kind_names_pass (knows_type ts) t.kind

abbrev pub application_is_known : List DeclaredType → Option Application → Bool
application_is_known ts None = true
application_is_known ts (Some a) =
    list_all (knows_type ts) a.principals
    && list_all (knows_type ts) a.resources
    && names_pass (knows_type ts) a.context

-- each named type is known
abbrev pub types_are_known : List DeclaredType → List DeclaredAction → Bool
types_are_known ts acts =
    list_all (type_is_known ts) ts && list_all (λ a. application_is_known ts a.applies_to) acts

-- each descendant of an action is declared
abbrev pub action_descendants_declared : List DeclaredAction → Bool
action_descendants_declared acts =
    list_all (λ a. list_all (declares_action acts) a.descendants) acts

-- ---- types that are too vague

abbrev pub is_vague_bool : BoolType → Bool
is_vague_bool AnyBool = false
is_vague_bool True = true
is_vague_bool False = true

abbrev mutual
  -- the type has Never, True, False, a set of anything, an open record, any entity or several types
  pub is_vague : Ty → Bool
  is_vague TNever = true
  is_vague (TBool k) = is_vague_bool k
  is_vague TLong = false
  is_vague TString = false
  is_vague (TSet t) = is_vague t
  is_vague TAnySet = true
  is_vague (TRecord xs o) = o || are_vague xs
  is_vague (TEntity ps) = nat_lt 1 (length ps)
  is_vague TAnyEntity = true
  is_vague (TExtension n) = false

  pub are_vague : Attrs → Bool
  are_vague no_attrs = false
  are_vague (attr k t r xs) = is_vague t || are_vague xs

abbrev pub is_record : Ty → Bool
is_record (TRecord xs o) = true
is_record _ = false

abbrev pub kind_is_definite : TypeKind → Bool
kind_is_definite (StandardKind attrs tags) =
    not (are_vague attrs) && tags_pass (λ t. not (is_vague t)) tags
kind_is_definite (EnumKind ids) = true
kind_is_definite ExternalKind = true

-- a context is a record, and is not vague
abbrev pub application_is_definite : Option Application → Bool
application_is_definite None = true
application_is_definite (Some a) = is_record a.context && not (is_vague a.context)

-- no attribute, tag or context is vague
abbrev pub types_are_definite : List DeclaredType → List DeclaredAction → Bool
types_are_definite ts acts =
    list_all (λ t. kind_is_definite t.kind) ts
    && list_all (λ a. application_is_definite a.applies_to) acts

-- ---- descendants of descendants

abbrev pub is_among : List Path → Path → Bool
is_among ps p = list_any (path_eq p) ps

abbrev pub uid_is_among : List Uid → Uid → Bool
uid_is_among us u = list_any (uid_eq u) us

-- each descendant of a descendant is a descendant
abbrev pub types_are_closed : List DeclaredType → Bool
types_are_closed ts =
    list_all
    (λ t. list_all (λ d. list_all (is_among t.descendants) (descendants_of ts d)) t.descendants)
    ts

abbrev pub actions_are_closed : List DeclaredAction → Bool
actions_are_closed acts =
    list_all
    (λ a. list_all (λ d. list_all (uid_is_among a.descendants) (descendants_of_action acts d))
    a.descendants)
    acts

-- ---- the first fault, in this order

-- the first fault of names that are declared once each
abbrev pub later_fault : Schema → Option SchemaError
later_fault s =
    if declares_action_type s.types then Some ActionTypeDeclared
    else if not (are_actions s.actions) then Some NotAnActionType
    else if has_empty_enum s.types then Some EmptyEnum
    else if not (types_are_known s.types s.actions) then Some UnknownType
    else if not (action_descendants_declared s.actions) then Some UnknownActionDescendant
    else if not (types_are_definite s.types s.actions) then Some VagueType
    else if not (types_are_closed s.types && actions_are_closed s.actions)
    then Some DescendantsNotClosed
    else None

abbrev pub first_fault : Schema → Option SchemaError
first_fault s =
    if repeats_type s.types then Some DuplicateEntityType
    else if repeats_action s.actions then Some DuplicateAction
    else later_fault s

abbrev pub has_fault : Schema → Bool
has_fault s = is_some (first_fault s)

-- ---- which entities may be in which

abbrev pub is_external_kind : TypeKind → Bool
is_external_kind (StandardKind attrs tags) = false
is_external_kind (EnumKind ids) = false
is_external_kind ExternalKind = true

abbrev pub is_external : Option DeclaredType → Bool
is_external None = false
is_external (Some t) = is_external_kind t.kind

-- nothing is known of a type that is unknown itself, or is external
abbrev pub is_open_type : List DeclaredType → Path → Bool
is_open_type ts p = not (knows_type ts p) || is_external (type_named ts p)

-- some declared action of type l is a descendant of one of type r
abbrev pub action_is_below : List DeclaredAction → Path → Path → Bool
action_is_below acts l r =
    list_any
    (λ a. path_eq r a.name.entity_type
    && list_any (λ b. path_eq l b.name.entity_type && uid_is_among a.descendants b.name) acts)
    acts

-- whether an entity of type l may be in one of type r: they are one type, or one of them is open,
-- or l is a descendant of r, or an action of type l is a descendant of one of type r
abbrev pub may_be_in : Schema → Path → Path → Bool
may_be_in s l r =
    path_eq l r
    || is_open_type s.types l || is_open_type s.types r
    || is_among (descendants_of s.types r) l
    || action_is_below s.actions l r

-- whether an entity of some type in ls may be in one of some type in rs
abbrev pub any_may_be_in : Schema → List Path → List Path → Bool
any_may_be_in s ls rs = list_any (λ l. list_any (may_be_in s l) rs) ls
