use Rattle.std.proofs.Common.{◌≡◌, ◌∙◌, rules, Option, Some, None}
use Rattle.cedar_types.specs.declared.base.schema.errors.SchemaError.TheVariants.{ActionTypeDeclared, NotAnActionType, EmptyEnum}
use Rattle.cedar_types.specs.declared.base.schema.errors.SchemaError.TheVariants.{UnknownType, UnknownActionDescendant, VagueType}
use Rattle.cedar_types.specs.declared.base.schema.errors.SchemaError.TheVariants.{DescendantsNotClosed}
use Rattle.cedar_types.specs.declared.base.names.entities.EntityType.{EntityType}
use Rattle.cedar_types.specs.declared.base.names.entities.EntityUID.{EntityUID}
use Rattle.cedar_types.specs.declared.base.schema.actions.ValidatorActionId.{ValidatorActionId}
use Rattle.cedar_types.specs.declared.base.schema.entity_types.ValidatorEntityType.{ValidatorEntityType}
use Rattle.cedar_types.specs.declared.base.schema.errors.SchemaError.{SchemaError}
use Rattle.cedar_types.specs.declared.base.schema.tables.Table.{Table}
use Rattle.cedar_types.specs.Schemas.{later_fault}
use Rattle.cedar_types.specs.Schemas.Tables.{types_in, actions_in, schema_in}
use Rattle.cedar_types.proofs.Schema.Faults.{seen_fault, fault_seen}
use Rattle.cedar_types.proofs.base.schema.faults.find_fault.Goals as goal

-- The fault seen in two tables is the later fault of their declarations
told : {d o e p d' o' e' p' : _} (types : Table ValidatorEntityType EntityType d o e p)
    (actions : Table ValidatorActionId EntityUID d' o' e' p') (fault : Option SchemaError)
    → fault ≡ seen_fault types.declared.items actions.declared.items (types_in types) (actions_in actions)
    → fault ≡ later_fault (schema_in types actions)
told types actions fault seen = seen ∙ fault_seen types.declared.items actions.declared.items

pub returns-then-has_action_type : goal.returns-then-has_action_type
returns-then-has_action_type c = told c.args.types.now c.args.actions.now (Some ActionTypeDeclared) (search rules)

pub returns-then-not-are_all_actions : goal.returns-then-not-are_all_actions
returns-then-not-are_all_actions c = told c.args.types.now c.args.actions.now (Some NotAnActionType) (search rules)

pub returns-then-has_empty_enum : goal.returns-then-has_empty_enum
returns-then-has_empty_enum c = told c.args.types.now c.args.actions.now (Some EmptyEnum) (search rules)

pub returns-then-not-are_applications_known : goal.returns-then-not-are_applications_known
returns-then-not-are_applications_known c = told c.args.types.now c.args.actions.now (Some UnknownType) (search rules)

pub returns-then-not-are_descendants_declared : goal.returns-then-not-are_descendants_declared
returns-then-not-are_descendants_declared c = told c.args.types.now c.args.actions.now (Some UnknownActionDescendant) (search rules)

pub returns-then-not-are_applications_definite : goal.returns-then-not-are_applications_definite
returns-then-not-are_applications_definite c = told c.args.types.now c.args.actions.now (Some VagueType) (search rules)

pub returns-then-not-are_closed : goal.returns-then-not-are_closed
returns-then-not-are_closed c = told c.args.types.now c.args.actions.now (Some DescendantsNotClosed) (search rules)

pub returns : goal.returns
returns c = told c.args.types.now c.args.actions.now None (search rules)
