use Rattle.std.proofs.Common.{◌≡◌, map}
use Rattle.cedar_types.specs.Names.{type_of}
use Rattle.cedar_types.specs.Types.{types_of}
use Rattle.cedar_types.specs.Types.Bounds.{union}
use Rattle.cedar_types.proofs.base.types.entity_unions.add_types.Given as goal

-- The union of the types so far with the remaining types is the whole union
abbrev pub invariant-loop-y : goal.invariant-loop-y
invariant-loop-y l = union (types_of l.all) (map type_of l.y-iterator) ≡ union (types_of l.fn.xs) (types_of l.fn.ys)
