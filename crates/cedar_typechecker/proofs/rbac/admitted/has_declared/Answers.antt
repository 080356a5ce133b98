use Rattle.std.proofs.Common.{◌∙◌}
use Rattle.cedar_types.specs.Schemas.Contents.{schema_of}
use Rattle.cedar_types.specs.Types.{types_of}
use Rattle.cedar_typechecker.proofs.Answers.{declared_among}
use Rattle.cedar_typechecker.proofs.rbac.admitted.has_declared.Goals as goal

pub returns : goal.returns
returns c =
    c.declares_any.ensures
    ∙ declared_among (schema_of c.args.schema.now).types (types_of c.args.types.now)
