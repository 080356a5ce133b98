-- The faults of declarations, tested on the declarations as the caller passes them.
use Rattle.std.proofs.Common.{◌≡◌, sym, ◌&&◌, not, List, map, Option, Some, None, if◌then◌else◌}
use Rattle.std.specs.List.{list_any, list_all}
use Rattle.std.proofs.lemmas.List.Folds.{list_all-map}
use Rattle.cedar_types.specs.Names.{is_action_path, type_of}
use Rattle.cedar_types.specs.Schemas.Declarations.{declared_type, declared_action, declared, type_kind, applies, uids_of}
use Rattle.cedar_types.specs.Schemas.{DeclaredType, DeclaredAction, later_fault, is_empty_enum, type_is_known, application_is_known}
use Rattle.cedar_types.specs.Schemas.{declares_action, kind_is_definite, application_is_definite, types_are_closed, actions_are_closed}
use Rattle.cedar_types.specs.declared.base.schema.entity_types.ValidatorEntityType.{ValidatorEntityType}
use Rattle.cedar_types.specs.declared.base.schema.actions.ValidatorActionId.{ValidatorActionId}
use Rattle.cedar_types.specs.declared.base.schema.errors.SchemaError.{SchemaError}
use Rattle.cedar_types.specs.declared.base.schema.errors.SchemaError.TheVariants.{ActionTypeDeclared, NotAnActionType, EmptyEnum}
use Rattle.cedar_types.specs.declared.base.schema.errors.SchemaError.TheVariants.{UnknownType, UnknownActionDescendant, VagueType}
use Rattle.cedar_types.specs.declared.base.schema.errors.SchemaError.TheVariants.{DescendantsNotClosed}
use Rattle.cedar_types.proofs.Schema.Places.{any_mapped}

-- The later faults of declarations, with names looked up in us and bs
abbrev pub seen_fault : List ValidatorEntityType → List ValidatorActionId → List DeclaredType → List DeclaredAction → Option SchemaError
seen_fault ts acts us bs =
    if list_any (λ t. is_action_path (type_of t.name)) ts then Some ActionTypeDeclared
    else if not (list_all (λ a. is_action_path (type_of a.name.entity_type)) acts) then Some NotAnActionType
    else if list_any (λ t. is_empty_enum (type_kind t.kind)) ts then Some EmptyEnum
    else if not (list_all (λ t. type_is_known us (declared_type t)) ts
    && list_all (λ a. application_is_known us (applies a.kind)) acts) then Some UnknownType
    else if not (list_all (λ a. list_all (declares_action bs) (uids_of a.descendants)) acts) then Some UnknownActionDescendant
    else if not (list_all (λ t. kind_is_definite (type_kind t.kind)) ts
    && list_all (λ a. application_is_definite (applies a.kind)) acts) then Some VagueType
    else if not (types_are_closed us && actions_are_closed bs) then Some DescendantsNotClosed
    else None

pub fault_seen : (ts : List ValidatorEntityType) (acts : List ValidatorActionId)
    → seen_fault ts acts (map declared_type ts) (map declared_action acts) ≡ later_fault (declared ts acts)
fault_seen ts acts =
    let us = map declared_type ts in
    let bs = map declared_action acts in
    λ i.
    if any_mapped declared_type (λ t. is_action_path t.name) ts i then Some ActionTypeDeclared
    else if not (sym (list_all-map (λ a. is_action_path a.name.entity_type) declared_action acts) i) then Some NotAnActionType
    else if any_mapped declared_type (λ t. is_empty_enum t.kind) ts i then Some EmptyEnum
    else if not (sym (list_all-map (type_is_known us) declared_type ts) i
    && sym (list_all-map (λ a. application_is_known us a.applies_to) declared_action acts) i)
    then Some UnknownType
    else if not (sym (list_all-map (λ a. list_all (declares_action bs) a.descendants) declared_action acts) i)
    then Some UnknownActionDescendant
    else if not (sym (list_all-map (λ t. kind_is_definite t.kind) declared_type ts) i
    && sym (list_all-map (λ a. application_is_definite a.applies_to) declared_action acts) i)
    then Some VagueType
    else if not (types_are_closed us && actions_are_closed bs) then Some DescendantsNotClosed
    else None
