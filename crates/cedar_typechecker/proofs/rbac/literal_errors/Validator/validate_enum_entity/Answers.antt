use Rattle.cedar_types.specs.Schemas.Contents.{schema_of}
use Rattle.cedar_types.specs.Templates.{template_of}
use Rattle.cedar_typechecker.specs.Passes.{errors_left}
use Rattle.cedar_typechecker.proofs.Passes.{members_left}
use Rattle.cedar_typechecker.proofs.rbac.literal_errors.Validator.validate_enum_entity.Goals as goal

pub returns-clause-left : goal.returns-clause-left
returns-clause-left c =
    members_left (schema_of c.args.schema.now) (template_of c.args.template.now)
    (errors_left c.literal_errors.result) c.literal_errors.ensures.left
