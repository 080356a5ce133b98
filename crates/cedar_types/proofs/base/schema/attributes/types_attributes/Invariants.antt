use Rattle.std.proofs.Common.{◌≡◌, map, fold}
use Rattle.cedar_types.specs.declared.base.types.ValidationMode.TheVariants.{Permissive}
use Rattle.cedar_types.specs.Names.{type_of}
use Rattle.cedar_types.specs.Types.{attributes_of, lub_of}
use Rattle.cedar_types.specs.Types.Bounds.{common_attrs}
use Rattle.cedar_types.specs.Types.Lookups.{declared_attributes, types_attributes}
use Rattle.cedar_types.specs.Schemas.Contents.{schema_of}
use Rattle.cedar_types.proofs.base.schema.attributes.types_attributes.Given as goal

-- The attributes so far, joined with those of the remaining types, are the answer
abbrev pub invariant-loop-entity_type : goal.invariant-loop-entity_type
invariant-loop-entity_type l =
    fold (λ found q. common_attrs Permissive found (declared_attributes (schema_of l.schema).types q))
    (attributes_of l.found) (map type_of l.entity_type-iterator)
    ≡ types_attributes (schema_of l.fn.schema).types (lub_of l.fn.lub)
