-- The mentions of a template: entity ids and entity types, each occurrence with its place.
use Rattle.std.specs.Prelude.{List, [], ◌∷◌, ◌++◌, map, reverse, Option, Some, None}
use Rattle.std.specs.List.{filter_map}
use Rattle.cedar_types.specs.declared.base.location.Loc.{Loc}
use Rattle.cedar_types.specs.Names.{PlacedType, PlacedUid}
use Rattle.cedar_types.specs.Expressions.Parts.{subexpressions}
use Rattle.cedar_types.specs.Templates.{Reference, to_entity, to_slot, Scope, any, equal, within, typed, typed_within, ActionScope}
use Rattle.cedar_types.specs.Templates.{any_action, equal_action, within_actions, PlainTemplate, condition_of}
use Rattle.cedar_types.specs.Expressions.Tree.{entity, Tree, lit, is_type}
use Rattle.cedar_types.specs.Expressions.View.{Places, no_name, of_type, of_uid, Written}

-- an entity id, of a literal or in the scope, or the entity type that an `is` tests for
pub data Mention : Type 0 where
  named_uid : PlacedUid → Mention
  named_type : PlacedType → Mention

-- the entity id of a mention, if it is one
abbrev pub mentioned_uid : Mention → Option PlacedUid
mentioned_uid (named_uid u) = Some u
mentioned_uid (named_type t) = None

-- the entity type of a mention: that of its id, or the type that it tests for
abbrev pub mentioned_type : Mention → PlacedType
mentioned_type (named_uid u) = record { name = u.uid.entity_type; place = u.type_place }
mentioned_type (named_type t) = t

-- ---- the mentions of a template

-- the place of the entity id of a literal, and the place of its type
abbrev pub uid_place : Places → Option Loc
uid_place (of_uid l t) = l
uid_place p = None

abbrev pub type_place : Places → Option Loc
type_place (of_uid l t) = t
type_place (of_type l) = l
type_place no_name = None

-- the name that an expression itself mentions, without its parts
abbrev pub own_mention : Tree Written → Option Mention
own_mention (lit m (entity u)) =
    Some (named_uid record { uid = u; place = uid_place m.names; type_place = type_place m.names })
own_mention (is_type m a n) = Some (named_type record { name = n; place = type_place m.names })
own_mention e = None

-- the mentions of an expression and all its parts
abbrev pub mentions_of : Tree Written → List Mention
mentions_of e = filter_map own_mention (subexpressions e)

-- the mentions of the whole condition: those of the scope's constraints and of the rest
abbrev pub template_mentions : PlainTemplate → List Mention
template_mentions t = mentions_of (condition_of t)

-- ---- the mentions by the parts of a template, in the order of the condition's parts: from the
-- last to the first

abbrev pub reference_mentions : Reference → List Mention
reference_mentions (to_entity u) = named_uid u ∷ []
reference_mentions to_slot = []

-- the entity of a constraint, and then its type
abbrev pub scope_mentions : Scope → List Mention
scope_mentions any = []
scope_mentions (equal r) = reference_mentions r
scope_mentions (within r) = reference_mentions r
scope_mentions (typed t) = named_type t ∷ []
scope_mentions (typed_within t r) = reference_mentions r ++ (named_type t ∷ [])

-- the actions of a constraint
abbrev pub named_actions : ActionScope → List PlacedUid
named_actions any_action = []
named_actions (equal_action u) = u ∷ []
named_actions (within_actions us) = us

abbrev pub action_mentions : List PlacedUid → List Mention
action_mentions us = reverse (map named_uid us)

abbrev pub rest_mentions : Option (Tree Written) → List Mention
rest_mentions None = []
rest_mentions (Some e) = mentions_of e

-- the mentions of the rest, the resource, the actions and the principal
abbrev pub mentions_by_part : PlainTemplate → List Mention
mentions_by_part t =
    rest_mentions t.rest
    ++ (scope_mentions t.resource
    ++ (action_mentions (named_actions t.action) ++ scope_mentions t.principal))
