-- The declarations of a schema as plain data.
use Rattle.std.specs.Prelude.{List, Option, Some, None, map, option_map}
use Rattle.std.specs.BTreeSet.{BTreeSet}
use Rattle.cedar_types.specs.Names.{Uid, type_of, uid_of}
use Rattle.cedar_types.specs.Types.{types_of, ty_of, attributes_of}
use Rattle.cedar_types.specs.Schemas.Choices.{choices_of}
use Rattle.cedar_types.specs.Schemas.{TypeKind, StandardKind, EnumKind, ExternalKind, DeclaredType, Application, DeclaredAction, Schema}
use Rattle.cedar_types.specs.declared.base.names.entities.EntityUID.{EntityUID}
use Rattle.cedar_types.specs.declared.base.schema.entity_types.ValidatorEntityType.{ValidatorEntityType}
use Rattle.cedar_types.specs.declared.base.schema.entity_types.ValidatorEntityTypeKind.{ValidatorEntityTypeKind}
use Rattle.cedar_types.specs.declared.base.schema.entity_types.ValidatorEntityTypeKind.TheVariants.{Standard, Enum, External}
use Rattle.cedar_types.specs.declared.base.schema.actions.ValidatorActionId.{ValidatorActionId}
use Rattle.cedar_types.specs.declared.base.schema.actions.ValidatorApplySpec.{ValidatorApplySpec}
use Rattle.cedar_types.specs.declared.base.schema.actions.ValidatorActionKind.{ValidatorActionKind}
use Rattle.cedar_types.specs.declared.base.schema.actions.ValidatorActionKind.TheVariants as action

abbrev pub type_kind : ValidatorEntityTypeKind → TypeKind
type_kind (Standard s) = StandardKind (attributes_of s.attributes) (option_map ty_of s.tags)
type_kind (Enum ids) = EnumKind (choices_of ids)
type_kind External = ExternalKind

abbrev pub declared_type : ValidatorEntityType → DeclaredType
declared_type t =
    record { name = type_of t.name; descendants = types_of t.descendants; kind = type_kind t.kind }

-- the ids in a set, ascending
abbrev pub uids_of : BTreeSet EntityUID → List Uid
uids_of s = map uid_of s.keys

abbrev pub application : ValidatorApplySpec → Application
application a = record {
  principals = types_of a.principal_apply_spec;
  resources = types_of a.resource_apply_spec;
  context = ty_of a.context.value;
}

abbrev pub applies : ValidatorActionKind → Option Application
applies (action.Defined a) = Some (application a)
applies action.External = None

abbrev pub declared_action : ValidatorActionId → DeclaredAction
declared_action a = record {
  name = uid_of a.name;
  descendants = uids_of a.descendants;
  applies_to = applies a.kind;
}

-- the schema that some declarations state
abbrev pub declared : List ValidatorEntityType → List ValidatorActionId → Schema
declared types actions =
    record { types = map declared_type types; actions = map declared_action actions }
