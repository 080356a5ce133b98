-- The entity types that the scope of a policy admits for the principal and for the resource, and
-- the actions that it admits.
use Rattle.std.specs.Prelude.{Bool, true, false, cond, List, [], ◌∷◌, map}
use Rattle.std.specs.List.{list_all, flat_map}
use Rattle.std.specs.Option.{option_to_list}
use Rattle.cedar_types.specs.Environments.Linking.{type_names}
use Rattle.cedar_types.specs.Schemas.Listings.{types_within, actions_within}
use Rattle.cedar_types.specs.Names.{Path, Uid}
use Rattle.cedar_types.specs.Schemas.{DeclaredAction, Application, Schema, knows_type, is_among, declares_action, action_named}
use Rattle.cedar_types.specs.Templates.{to_entity, to_slot, Scope, any, equal, within, typed, typed_within, ActionScope, any_action}
use Rattle.cedar_types.specs.Templates.{equal_action, within_actions}

-- ---- entity types

-- the type alone, if the test holds
abbrev pub only_if : Bool → Path → List Path
only_if true p = p ∷ []
only_if false p = []

-- the entity types that a constraint on the principal or on the resource admits
abbrev pub admitted_types : Schema → Scope → List Path
-- no constraint, or `==` or `in` a slot: each declared type, because a slot may be bound to an
-- entity of any type
admitted_types s any = type_names s.types
admitted_types s (equal to_slot) = type_names s.types
admitted_types s (within to_slot) = type_names s.types
-- `== e`: the type of e, known or not
admitted_types s (equal (to_entity u)) = u.uid.entity_type ∷ []
-- `in e`: the type of e and its descendants
admitted_types s (within (to_entity u)) = types_within s.types u.uid.entity_type
-- `is T`, `is T in` a slot: T, if it is known
admitted_types s (typed t) = only_if (knows_type s.types t.name) t.name
admitted_types s (typed_within t to_slot) = only_if (knows_type s.types t.name) t.name
-- `is T in e`: T, if it is the type of e or one of its descendants
admitted_types s (typed_within t (to_entity u)) =
    only_if (is_among (types_within s.types u.uid.entity_type) t.name) t.name

-- ---- actions

-- the declarations of these actions. Actions that are not declared are left out
abbrev pub declarations : List DeclaredAction → List Uid → List DeclaredAction
declarations acts us = flat_map (λ u. option_to_list (action_named acts u)) us

-- the declarations of the actions that a constraint on the action admits
abbrev pub admitted_actions : List DeclaredAction → ActionScope → List DeclaredAction
-- no constraint: each declared action
admitted_actions acts any_action = acts
-- `== a`: a
admitted_actions acts (equal_action u) = declarations acts (u.uid ∷ [])
-- `in [a, b]`: these and their descendants, or none at all if one of them is not declared
admitted_actions acts (within_actions us) =
    let ids = map (λ u. u.uid) us in
    cond (list_all (declares_action acts) ids) (declarations acts (actions_within acts ids)) []

-- the applications of some actions. Actions that are not defined are left out
abbrev pub applications : List DeclaredAction → List Application
applications acts = flat_map (λ a. option_to_list a.applies_to) acts

-- the applications of the admitted actions that are defined
abbrev pub admitted_applications : Schema → ActionScope → List Application
admitted_applications s c = applications (admitted_actions s.actions c)
