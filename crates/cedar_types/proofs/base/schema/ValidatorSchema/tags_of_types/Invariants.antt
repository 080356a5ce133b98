use Rattle.std.proofs.Common.{◌≡◌, ◌++◌, map}
use Rattle.cedar_types.specs.Names.{type_of}
use Rattle.cedar_types.specs.Types.{ty_of, lub_of}
use Rattle.cedar_types.specs.Types.Lookups.{tags_of_types}
use Rattle.cedar_types.specs.Schemas.Contents.{schema_of}
use Rattle.cedar_types.proofs.base.schema.ValidatorSchema.tags_of_types.Given as goal

-- The tags so far, and the tags that the remaining types declare, are all tags
abbrev pub invariant-loop-entity_type : goal.invariant-loop-entity_type
invariant-loop-entity_type l =
    map ty_of l.tags.items ++ tags_of_types (schema_of l.self).types (map type_of l.entity_type-iterator)
    ≡ tags_of_types (schema_of l.fn.self).types (lub_of l.fn.lub)
