-- The contents of a schema's tables.
use Rattle.std.specs.Prelude.{List, map}
use Rattle.cedar_types.specs.Schemas.{DeclaredType, DeclaredAction, Schema}
use Rattle.cedar_types.specs.Schemas.Declarations.{declared_type, declared_action}
use Rattle.cedar_types.specs.declared.base.names.entities.EntityType.{EntityType}
use Rattle.cedar_types.specs.declared.base.names.entities.EntityUID.{EntityUID}
use Rattle.cedar_types.specs.declared.base.schema.actions.ValidatorActionId.{ValidatorActionId}
use Rattle.cedar_types.specs.declared.base.schema.entity_types.ValidatorEntityType.{ValidatorEntityType}
use Rattle.cedar_types.specs.declared.base.schema.tables.Table.{Table}
pub mod Places

-- the types in a table; the other arguments of a table tell how its names are read and compared
abbrev pub types_in : {d o e p : _} → Table ValidatorEntityType EntityType d o e p
    → List DeclaredType
types_in t = map declared_type t.declared.items

-- the actions in a table
abbrev pub actions_in : {d o e p : _} → Table ValidatorActionId EntityUID d o e p
    → List DeclaredAction
actions_in t = map declared_action t.declared.items

-- the schema that two tables declare
abbrev pub schema_in : {d o e p d' o' e' p' : _} → Table ValidatorEntityType EntityType d o e p
    → Table ValidatorActionId EntityUID d' o' e' p' → Schema
schema_in types actions = record { types = types_in types; actions = actions_in actions }
