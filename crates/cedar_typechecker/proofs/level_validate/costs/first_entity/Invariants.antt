use Rattle.std.proofs.Common.{◌≡◌, map, drop}
use Rattle.cedar_types.specs.Names.{text_of}
use Rattle.cedar_types.specs.Schemas.Contents.{schema_of}
use Rattle.cedar_types.specs.Types.{ty_of}
use Rattle.cedar_typechecker.specs.Levels.Demands.{entity_after}
use Rattle.cedar_typechecker.proofs.level_validate.costs.first_entity.Given as goal

-- the result for the attributes that are left, after those before
abbrev pub invariant-loop-count : goal.invariant-loop-count
invariant-loop-count l =
    entity_after (schema_of l.schema) l.count (ty_of l.reached) (text_of l.attr)
    (map text_of (drop l.count l.rest))
    ≡ entity_after (schema_of l.schema) 0 (ty_of l.root) (text_of l.first) (map text_of l.rest)
