-- The entities of unknown types to which the slots of a policy are bound.
use Rattle.std.specs.Prelude.{Bool, List, [], cond, map, filter, None}
use Rattle.cedar_types.specs.declared.base.names.entities.EntityUID.{EntityUID}
use Rattle.cedar_types.specs.Errors.{Finding, unrecognized_entity_type}
use Rattle.cedar_types.specs.Templates.Findings.{is_unknown_type}
use Rattle.cedar_types.specs.Names.{Text, text_of, type_of}
use Rattle.cedar_types.specs.Schemas.Contents.{schema_of}
use Rattle.cedar_types.specs.Schemas.{Schema}
use Rattle.cedar_typechecker.specs.declared.rbac.slot_errors.SlotTypeErrors.{SlotTypeErrors}

-- an error without a place for each bound entity of an unknown type
abbrev pub unknown_slot_types : Schema → Text → List EntityUID → List Finding
unknown_slot_types s policy us =
    map (λ u. record {
      place = None;
      policy = policy;
      fault = unrecognized_entity_type (type_of u.entity_type);
    })
    (filter (λ u. is_unknown_type s (type_of u.entity_type)) us)

-- ---- the iterator

-- the findings at the slots that are still to come, if the walk has not ended
abbrev pub slot_errors_to_come : SlotTypeErrors → List Finding
slot_errors_to_come s =
    unknown_slot_types (schema_of s.schema.now) (text_of s.policy_id.now.text) s.values

unfoldable pub slot_errors_left : SlotTypeErrors → List Finding
slot_errors_left s = cond s.ended [] (slot_errors_to_come s)

-- whether the iterator has ended for good
unfoldable pub slot_errors_are_over : SlotTypeErrors → Bool
slot_errors_are_over s = s.ended
