-- Errors and warnings of validation as plain data.
use Rattle.std.specs.Prelude.{ℕ, Bool, List, Option, map, option_map}
use Rattle.cedar_types.specs.declared.base.location.Loc.{Loc}
use Rattle.cedar_types.specs.declared.base.names.policy_ids.PolicyID.{PolicyID}
use Rattle.cedar_types.specs.declared.base.errors.type_errors.LubContext.{LubContext}
use Rattle.cedar_types.specs.declared.base.errors.validation_errors.ValidationError.{ValidationError}
use Rattle.cedar_types.specs.declared.base.errors.validation_errors.ValidationError.TheVariants as error
use Rattle.cedar_types.specs.declared.base.errors.validation_warnings.ValidationWarning.{ValidationWarning}
use Rattle.cedar_types.specs.declared.base.errors.validation_warnings.ValidationWarning.TheVariants as warning
use Rattle.cedar_types.specs.Names.{Text, Path, Uid, text_of, path_of, type_of, uid_of}
use Rattle.cedar_types.specs.Types.{Ty, ty_of, lub_of}

-- the fault of an error
pub data Fault : Type 0 where
  -- a type or an action that the schema does not have, and an id that its enumerated type does not
  -- have
  unrecognized_entity_type : Path → Fault
  unrecognized_action_id : Uid → Fault
  invalid_enum_entity : Uid → Fault
  -- the expected types, ascending, and the actual one
  unexpected_type : List Ty → Ty → Fault
  -- the types that have no bound, ascending, and the context that needs a bound
  incompatible_types : List Ty → LubContext → Fault
  -- the type of the base, the attribute, and whether it may be present
  unsafe_attribute_access : Ty → Text → Bool → Fault
  unsafe_optional_attribute_access : Ty → Text → Fault
  -- the types of the entity, ascending, or none if it may be of any type
  unsafe_tag_access : Option (List Path) → Fault
  -- the type of the entity, or none if it may be of several types
  no_tags_allowed : Option Path → Fault
  undefined_function : Path → Fault
  -- the expected number, and the actual one
  wrong_number_arguments : ℕ → ℕ → Fault
  function_argument_validation : Text → Fault
  empty_set_forbidden : Fault
  non_lit_ext_constructor : Fault
  internal_invariant_violation : Fault
  -- the allowed level, and the required one
  maximum_level_exceeded : ℕ → ℕ → Fault
  literal_dereference_target : Fault

-- an error: its place, its policy, and its fault
pub record Finding : Type 0 where
  pub place : Option Loc
  pub policy : Text
  pub fault : Fault

-- the likely slip of a warning
pub data Slip : Type 0 where
  impossible_policy : Slip
  -- whether `in` in place of `==` might help for the principal, and for the resource
  invalid_action_application : Bool → Bool → Slip

-- a warning: its place, its policy, and its likely slip
pub record Warning : Type 0 where
  pub place : Option Loc
  pub policy : Text
  pub slip : Slip

-- a fault with its place and policy
abbrev pub found : Option Loc → PolicyID → Fault → Finding
found l p f = record { place = l; policy = text_of p.text; fault = f }

-- a likely slip with its place and policy
abbrev pub noted : Option Loc → PolicyID → Slip → Warning
noted l p s = record { place = l; policy = text_of p.text; slip = s }

abbrev pub finding_of : ValidationError → Finding
finding_of (error.UnrecognizedEntityType e) =
    found e.source_loc e.policy_id (unrecognized_entity_type (type_of e.actual_entity_type))
finding_of (error.UnrecognizedActionId e) =
    found e.source_loc e.policy_id (unrecognized_action_id (uid_of e.actual_action_id))
finding_of (error.InvalidEnumEntity e) =
    found e.source_loc e.policy_id (invalid_enum_entity (uid_of e.uid))
finding_of (error.UnexpectedType e) =
    found e.source_loc e.policy_id (unexpected_type (map ty_of e.expected.keys) (ty_of e.actual))
finding_of (error.IncompatibleTypes e) =
    found e.source_loc e.policy_id (incompatible_types (map ty_of e.types.keys) e.context)
finding_of (error.UnsafeAttributeAccess e) =
    found e.source_loc e.policy_id
    (unsafe_attribute_access (ty_of e.accessed_type) (text_of e.attr) e.may_exist)
finding_of (error.UnsafeOptionalAttributeAccess e) =
    found e.source_loc e.policy_id
    (unsafe_optional_attribute_access (ty_of e.accessed_type) (text_of e.attr))
finding_of (error.UnsafeTagAccess e) =
    found e.source_loc e.policy_id (unsafe_tag_access (option_map lub_of e.entity_ty))
finding_of (error.NoTagsAllowed e) =
    found e.source_loc e.policy_id (no_tags_allowed (option_map type_of e.entity_ty))
finding_of (error.UndefinedFunction e) =
    found e.source_loc e.policy_id (undefined_function (path_of e.name))
finding_of (error.WrongNumberArguments e) =
    found e.source_loc e.policy_id (wrong_number_arguments e.expected e.actual)
finding_of (error.FunctionArgumentValidation e) =
    found e.source_loc e.policy_id (function_argument_validation (text_of e.msg))
finding_of (error.EmptySetForbidden e) = found e.source_loc e.policy_id empty_set_forbidden
finding_of (error.NonLitExtConstructor e) = found e.source_loc e.policy_id non_lit_ext_constructor
finding_of (error.InternalInvariantViolation e) =
    found e.source_loc e.policy_id internal_invariant_violation
finding_of (error.MaximumLevelExceeded e) =
    found e.source_loc e.policy_id
    (maximum_level_exceeded e.allowed_level.level e.actual_level.level)
finding_of (error.LiteralDereferenceTarget e) =
    found e.source_loc e.policy_id literal_dereference_target

abbrev pub warning_of : ValidationWarning → Warning
warning_of (warning.ImpossiblePolicy w) = noted w.source_loc w.policy_id impossible_policy
warning_of (warning.InvalidActionApplication w) =
    noted w.source_loc w.policy_id
    (invalid_action_application w.would_in_fix_principal w.would_in_fix_resource)
