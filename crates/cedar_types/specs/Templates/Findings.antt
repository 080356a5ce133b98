-- Names in a template that the schema does not have.
use Rattle.std.specs.Prelude.{Bool, false, not, ◌&&◌, List, map, filter, Option, Some, None}
use Rattle.std.specs.List.{flat_map, filter_map, list_any}
use Rattle.std.specs.Option.{option_to_list}
use Rattle.cedar_types.specs.declared.base.location.Loc.{Loc}
use Rattle.cedar_types.specs.Errors.{Finding, Fault, unrecognized_entity_type, unrecognized_action_id, invalid_enum_entity}
use Rattle.cedar_types.specs.Templates.Mentions.{mentioned_uid, mentioned_type, own_mention}
use Rattle.cedar_types.specs.Names.{Text, Path, Uid, PlacedType, PlacedUid, text_eq, is_action_path}
use Rattle.cedar_types.specs.Expressions.Parts.{subexpressions}
use Rattle.cedar_types.specs.Schemas.{TypeKind, StandardKind, EnumKind, ExternalKind, DeclaredType, Schema, type_named, knows_type}
use Rattle.cedar_types.specs.Schemas.{declares_action}
use Rattle.cedar_types.specs.Templates.{PlainTemplate, condition_of}
use Rattle.cedar_types.specs.Expressions.Tree.{Tree}
use Rattle.cedar_types.specs.Expressions.View.{Written}

-- ---- the names in a template, each occurrence

-- the entity id that an expression itself is
abbrev pub uids_named : Tree Written → List PlacedUid
uids_named e = filter_map mentioned_uid (option_to_list (own_mention e))

-- the entity type that an expression itself names: that of its entity id, or the one that it tests
-- for
abbrev pub types_named : Tree Written → List PlacedType
types_named e = map mentioned_type (option_to_list (own_mention e))

-- the entity ids of the whole condition: of the scope's constraints and of the rest
abbrev pub template_uids : PlainTemplate → List PlacedUid
template_uids t = flat_map uids_named (subexpressions (condition_of t))

abbrev pub template_types : PlainTemplate → List PlacedType
template_types t = flat_map types_named (subexpressions (condition_of t))

-- ---- names that the schema does not know

abbrev pub is_unknown_type : Schema → Path → Bool
is_unknown_type s p = not (knows_type s.types p)

-- an entity id of an action type that is no declared action
abbrev pub is_unknown_action : Schema → Uid → Bool
is_unknown_action s u = is_action_path u.entity_type && not (declares_action s.actions u)

-- the id is not among those of an enumerated type
abbrev pub excludes : TypeKind → Text → Bool
excludes (EnumKind ids) i = not (list_any (text_eq i) ids)
excludes (StandardKind xs tags) i = false
excludes ExternalKind i = false

abbrev pub declared_excludes : Option DeclaredType → Text → Bool
declared_excludes None i = false
declared_excludes (Some d) i = excludes d.kind i

abbrev pub is_wrong_member : Schema → Uid → Bool
is_wrong_member s u = declared_excludes (type_named s.types u.entity_type) u.eid

-- ---- the findings

abbrev pub finding_at : PlainTemplate → Option Loc → Fault → Finding
finding_at t l f = record { place = l; policy = t.id; fault = f }

-- each name of a type that the schema does not know, at the name
abbrev pub unknown_types : Schema → PlainTemplate → List Finding
unknown_types s t =
    map (λ n. finding_at t n.place (unrecognized_entity_type n.name))
    (filter (λ n. is_unknown_type s n.name) (template_types t))

-- each action that is not declared, at its id
abbrev pub unknown_actions : Schema → PlainTemplate → List Finding
unknown_actions s t =
    map (λ n. finding_at t n.place (unrecognized_action_id n.uid))
    (filter (λ n. is_unknown_action s n.uid) (template_uids t))

-- each id of an enumerated type that is none of its members, at the id
abbrev pub wrong_members : Schema → PlainTemplate → List Finding
wrong_members s t =
    map (λ n. finding_at t n.place (invalid_enum_entity n.uid))
    (filter (λ n. is_wrong_member s n.uid) (template_uids t))
