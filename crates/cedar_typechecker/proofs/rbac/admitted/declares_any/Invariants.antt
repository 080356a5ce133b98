use Rattle.std.proofs.Common.{◌≡◌, map}
use Rattle.std.specs.List.{list_any}
use Rattle.cedar_types.specs.Names.{type_of}
use Rattle.cedar_types.specs.Schemas.{declares_type}
use Rattle.cedar_types.specs.Schemas.Contents.{schema_of}
use Rattle.cedar_types.specs.Types.{types_of}
use Rattle.cedar_typechecker.proofs.rbac.admitted.declares_any.Given as goal

-- the types that are left decide, because none so far is declared
abbrev pub invariant-loop-entity_type : goal.invariant-loop-entity_type
invariant-loop-entity_type l =
    list_any (declares_type (schema_of l.schema).types) (map type_of l.entity_type-iterator)
    ≡ list_any (declares_type (schema_of l.fn.schema).types) (types_of l.fn.types)
