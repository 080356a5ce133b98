use Rattle.std.proofs.Common.{◌≡◌, map}
use Rattle.std.specs.List.{list_any}
use Rattle.cedar_types.specs.Names.{type_of}
use Rattle.cedar_types.specs.Schemas.{is_among, descendants_of}
use Rattle.cedar_types.specs.Schemas.Contents.{schema_of}
use Rattle.cedar_types.specs.Types.{types_of}
use Rattle.cedar_typechecker.proofs.rbac.members.has_declared_below.Given as goal

-- the members that are left decide, because none so far is among the descendants
abbrev pub invariant-loop-below : goal.invariant-loop-below
invariant-loop-below l =
    list_any (is_among (descendants_of (schema_of l.schema).types (type_of l.above))) (map type_of l.below-iterator)
    ≡ list_any (is_among (descendants_of (schema_of l.fn.schema).types (type_of l.fn.above))) (types_of l.fn.types)
