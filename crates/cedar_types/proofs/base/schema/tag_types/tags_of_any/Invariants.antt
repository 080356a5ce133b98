use Rattle.std.proofs.Common.{◌≡◌, ◌++◌, map, drop}
use Rattle.cedar_types.specs.Schemas.Declarations.{declared_type}
use Rattle.cedar_types.specs.Types.{ty_of}
use Rattle.cedar_types.specs.Types.Lookups.{tags_of_any}
use Rattle.cedar_types.proofs.base.schema.tag_types.tags_of_any.Given as goal

-- The tags so far, and those that the remaining types declare, are all tags
abbrev pub invariant-loop-entity_type : goal.invariant-loop-entity_type
invariant-loop-entity_type l =
    map ty_of l.tags.items ++ tags_of_any (map declared_type (drop l.entity_type-index l.types))
    ≡ tags_of_any (map declared_type l.fn.types)
