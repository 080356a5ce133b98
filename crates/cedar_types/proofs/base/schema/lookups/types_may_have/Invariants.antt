use Rattle.std.proofs.Common.{◌≡◌, map}
use Rattle.std.specs.List.{list_any}
use Rattle.cedar_types.specs.Names.{text_of, type_of}
use Rattle.cedar_types.specs.Types.{lub_of}
use Rattle.cedar_types.specs.Types.Lookups.{may_declare}
use Rattle.cedar_types.specs.Schemas.Contents.{schema_of}
use Rattle.cedar_types.proofs.base.schema.lookups.types_may_have.Given as goal

-- The remaining types decide the answer
abbrev pub invariant-loop-entity_type : goal.invariant-loop-entity_type
invariant-loop-entity_type l =
    list_any (may_declare (schema_of l.schema).types (text_of l.attr)) (map type_of l.entity_type-iterator)
    ≡ list_any (may_declare (schema_of l.fn.schema).types (text_of l.fn.attr)) (lub_of l.fn.lub)
