-- Entity faults: their meaning for a store.
use Rattle.std.specs.Prelude.{Bool, false, not, ◌&&◌, ◌||◌, List, Option, Some, None}
use Rattle.std.specs.List.{list_any, list_all}
use Rattle.std.specs.Option.{is_some}
use Rattle.cedar_types.specs.Names.{Path, Uid, uid_of, uid_eq}
use Rattle.cedar_types.specs.Schemas.{TypeKind, StandardKind, EnumKind, ExternalKind, DeclaredType, DeclaredAction, Schema}
use Rattle.cedar_types.specs.Schemas.{declares_action, type_named, uid_is_among}
use Rattle.cedar_types.specs.Types.{Ty, Attrs, attr_names}
use Rattle.cedar_types.specs.Values.{Entries}
use Rattle.cedar_types.specs.Values.Stores.{Entity, Store, declares_ancestor, entity_at}
use Rattle.cedar_conformance.specs.declared.entity_faults.EntityFault.{EntityFault}
use Rattle.cedar_conformance.specs.declared.entity_faults.EntityProblem.{EntityProblem}
use Rattle.cedar_conformance.specs.declared.entity_faults.EntityProblem.TheVariants as problem
use Rattle.cedar_conformance.specs.StoreTests.{ancestor_fits, are_no_ids, is_empty_record}
use Rattle.cedar_conformance.specs.Tests.{all_entries, has_type, have_attrs, keys_among}

-- the attributes do not fit their declaration
abbrev pub attributes_have : Attrs → Entries → EntityProblem → Bool
attributes_have attrs es (problem.Attribute f) =
    not (have_attrs attrs es && keys_among (attr_names attrs) es)
attributes_have attrs es f = false

-- the tags do not have the declared type, or there are tags and no type is declared
abbrev pub tags_have : Option Ty → Entries → EntityProblem → Bool
tags_have (Some t) es (problem.Tag f) = not (all_entries (has_type t) es)
tags_have None es problem.UndeclaredTags = not (is_empty_record es)
tags_have tags es f = false

-- this is an ancestor, and an entity of type p may not be in one of its type
abbrev pub ancestors_have : List DeclaredType → Path → List Uid → EntityProblem → Bool
ancestors_have ts p us (problem.Ancestor u) =
    uid_is_among us (uid_of u) && not (ancestor_fits ts p (uid_of u))
ancestors_have ts p us f = false

-- an entity of a standard type has a problem of its attributes, its tags or its ancestors
abbrev pub standard_has : List DeclaredType → Path → Attrs → Option Ty → Entity → EntityProblem
    → Bool
standard_has ts p attrs tags e f =
    attributes_have attrs e.attributes f
    || (tags_have tags e.tags f || ancestors_have ts p e.ancestors f)

-- an entity that may have no data has attributes, ancestors or tags
abbrev pub bare_has : Entity → EntityProblem → Bool
bare_has e problem.HasAttributes = not (is_empty_record e.attributes)
bare_has e problem.HasAncestors = not (are_no_ids e.ancestors)
bare_has e problem.HasTags = not (is_empty_record e.tags)
bare_has e f = false

abbrev pub kind_has : List DeclaredType → Path → TypeKind → Entity → EntityProblem → Bool
kind_has ts p (StandardKind attrs tags) e f = standard_has ts p attrs tags e f
kind_has ts p (EnumKind ids) e f = bare_has e f
kind_has ts p ExternalKind e f = false

-- an action is not declared, has attributes or tags, is in one that does not declare it, or is not
-- in one that does
abbrev pub action_has : List DeclaredAction → Uid → Entity → EntityProblem → Bool
action_has acts u e problem.Undeclared = not (declares_action acts u)
action_has acts u e problem.HasAttributes = not (is_empty_record e.attributes)
action_has acts u e problem.HasTags = not (is_empty_record e.tags)
action_has acts u e (problem.UndeclaredAncestor v) =
    uid_is_among e.ancestors (uid_of v) && not (declares_ancestor acts u (uid_of v))
action_has acts u e (problem.MissingAncestor v) =
    declares_ancestor acts u (uid_of v) && not (uid_is_among e.ancestors (uid_of v))
action_has acts u e f = false

-- the data under this id, whose type is declared so, has the problem
abbrev pub entity_has : Schema → Uid → Option DeclaredType → Entity → EntityProblem → Bool
entity_has s u None e f = action_has s.actions u e f
entity_has s u (Some t) e f = kind_has s.types u.entity_type t.kind e f

-- an entry of a store has this id and this problem
abbrev pub entry_has : Schema → Uid → EntityProblem → Uid × Entity → Bool
entry_has s u f e =
    uid_eq u e.0 && entity_has s e.0 (type_named s.types e.0.entity_type) e.1 f

-- an action of this id is declared, and is not stored
abbrev pub lacks_action : Schema → Store → Uid → EntityProblem → Bool
lacks_action s store u problem.MissingAction =
    declares_action s.actions u && not (is_some (entity_at store u))
lacks_action s store u f = false

-- the problem of this id exists: the action is missing, or the data under the id has the problem
abbrev pub is_there : Schema → Store → Uid → EntityProblem → Bool
is_there s store u f = lacks_action s store u f || list_any (entry_has s u f) store

-- all faults pass
abbrev pub faults_pass : (Uid → EntityProblem → Bool) → List EntityFault → Bool
faults_pass p fs = list_all (λ f. p (uid_of f.id) f.problem) fs

-- each fault exists
abbrev pub all_there : Schema → Store → List EntityFault → Bool
all_there s store fs = faults_pass (is_there s store) fs

-- the problem of an action that has to be there: it is missing
abbrev pub missing_action : Option Entity → Option EntityProblem
missing_action None = Some problem.MissingAction
missing_action (Some e) = None
