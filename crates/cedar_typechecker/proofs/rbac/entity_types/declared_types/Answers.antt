use Rattle.std.proofs.Common.{map}
use Rattle.cedar_types.specs.Names.{type_of}
use Rattle.cedar_types.specs.Schemas.Contents.{schema_of}
use Rattle.cedar_typechecker.proofs.Answers.{declared_types}
use Rattle.cedar_typechecker.proofs.rbac.entity_types.declared_types.Goals as goal

pub returns : goal.returns
unfolding schema_of
returns c =
    declared_types (schema_of c.args.schema.now) c.args.schema.now.faultless
    (map (λ t. type_of t.now) c.in_ok-names.names.items) c.in_ok-names.ensures
