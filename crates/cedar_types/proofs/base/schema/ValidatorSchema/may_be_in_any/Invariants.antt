use Rattle.std.proofs.Common.{◌≡◌, map}
use Rattle.std.specs.List.{list_any}
use Rattle.cedar_types.specs.Names.{type_of}
use Rattle.cedar_types.specs.Types.{lub_of}
use Rattle.cedar_types.specs.Schemas.{may_be_in}
use Rattle.cedar_types.specs.Schemas.Contents.{schema_of}
use Rattle.cedar_types.proofs.base.schema.ValidatorSchema.may_be_in_any.Given as goal

-- The remaining right types decide the answer
abbrev pub invariant-loop-right : goal.invariant-loop-right
invariant-loop-right l =
    list_any (may_be_in (schema_of l.self) (type_of l.left)) (map type_of l.right-iterator)
    ≡ list_any (may_be_in (schema_of l.fn.self) (type_of l.fn.left)) (lub_of l.fn.rights)
