-- The findings of a pass over the names of a template.
use Rattle.std.specs.Prelude.{Bool, List, [], cond, Option, Some, None}
use Rattle.std.specs.List.{filter_map}
use Rattle.cedar_types.specs.Errors.{Finding, unrecognized_entity_type, unrecognized_action_id, invalid_enum_entity}
use Rattle.cedar_types.specs.Templates.Findings.{is_unknown_type, is_unknown_action, is_wrong_member}
use Rattle.cedar_types.specs.Templates.Mentions.{Mention, mentioned_uid, mentioned_type}
use Rattle.cedar_types.specs.Templates.MentionViews.{mentions_left}
use Rattle.cedar_types.specs.Names.{Text, PlacedType, PlacedUid, text_of}
use Rattle.cedar_types.specs.Schemas.Contents.{schema_of}
use Rattle.cedar_types.specs.Schemas.{Schema}
use Rattle.cedar_typechecker.specs.declared.rbac.literal_errors.LiteralErrors.{LiteralErrors}
use Rattle.cedar_typechecker.specs.declared.rbac.literal_errors.LiteralPass.{LiteralPass}
use Rattle.cedar_typechecker.specs.declared.rbac.literal_errors.LiteralPass.TheVariants.{EntityTypes, ActionIds, EnumEntities}

-- ---- one name

-- the error on a type, at its place, if the schema does not know it
abbrev pub type_finding : Schema → Text → PlacedType → Option Finding
type_finding s policy t =
    cond (is_unknown_type s t.name)
    (Some (record { place = t.place; policy = policy; fault = unrecognized_entity_type t.name }))
    None

-- the error on an id, at its place, if it is of an action type and not declared
abbrev pub action_finding : Schema → Text → PlacedUid → Option Finding
action_finding s policy u =
    cond (is_unknown_action s u.uid)
    (Some (record { place = u.place; policy = policy; fault = unrecognized_action_id u.uid }))
    None

-- the error on an id, at its place, if it is none of those of its enumerated type
abbrev pub member_finding : Schema → Text → PlacedUid → Option Finding
member_finding s policy u =
    cond (is_wrong_member s u.uid)
    (Some (record { place = u.place; policy = policy; fault = invalid_enum_entity u.uid }))
    None

abbrev pub of_uid : (PlacedUid → Option Finding) → Option PlacedUid → Option Finding
of_uid f None = None
of_uid f (Some u) = f u

-- the finding of a pass at a mention
abbrev pub own_finding : LiteralPass → Schema → Text → Mention → Option Finding
own_finding EntityTypes s policy m = type_finding s policy (mentioned_type m)
own_finding ActionIds s policy m = of_uid (action_finding s policy) (mentioned_uid m)
own_finding EnumEntities s policy m = of_uid (member_finding s policy) (mentioned_uid m)

-- ---- the iterator

-- the findings at the mentions that are still to come, if the walk has not ended
abbrev pub errors_to_come : LiteralErrors → List Finding
errors_to_come s =
    filter_map (own_finding s.pass (schema_of s.schema.now) (text_of s.template.now.id.text))
    (mentions_left s.mentions)

-- the findings that the iterator has still to give
unfoldable pub errors_left : LiteralErrors → List Finding
errors_left s = cond s.ended [] (errors_to_come s)

-- whether the iterator has ended for good
unfoldable pub errors_are_over : LiteralErrors → Bool
errors_are_over s = s.ended
