use Rattle.cedar_types.specs.Schemas.Contents.{schema_of}
use Rattle.cedar_types.specs.Templates.{template_of}
use Rattle.cedar_typechecker.specs.Passes.{errors_left}
use Rattle.cedar_typechecker.proofs.Passes.{types_left}
use Rattle.cedar_typechecker.proofs.rbac.literal_errors.Validator.validate_entity_types.Goals as goal

pub returns-clause-left : goal.returns-clause-left
returns-clause-left c =
    types_left (schema_of c.args.schema.now) (template_of c.args.template.now) (errors_left c.literal_errors.result)
    c.literal_errors.ensures.left
