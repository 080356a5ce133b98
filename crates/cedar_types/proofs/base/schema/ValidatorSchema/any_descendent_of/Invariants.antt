use Rattle.std.proofs.Common.{◌≡◌, map}
use Rattle.cedar_types.specs.Names.{type_of}
use Rattle.cedar_types.specs.Types.{lub_of}
use Rattle.cedar_types.specs.Schemas.{any_may_be_in}
use Rattle.cedar_types.specs.Schemas.Contents.{schema_of}
use Rattle.cedar_types.proofs.base.schema.ValidatorSchema.any_descendent_of.Given as goal

-- The remaining left types decide the answer
abbrev pub invariant-loop-left : goal.invariant-loop-left
invariant-loop-left l =
    any_may_be_in (schema_of l.self) (map type_of l.left-iterator) (lub_of l.rights)
    ≡ any_may_be_in (schema_of l.fn.self) (lub_of l.fn.lefts) (lub_of l.fn.rights)
