use Rattle.std.proofs.Common.{◌≡◌, map, drop, option_map}
use Rattle.cedar_types.specs.Names.{text_of}
use Rattle.cedar_types.specs.Schemas.Contents.{schema_of}
use Rattle.cedar_where.specs.Routes.{follow}
use Rattle.cedar_where.specs.Views.{route_of}
use Rattle.cedar_where.proofs.columns.follow.Given as goal

-- the remaining attributes lead on from the path so far
abbrev pub invariant-loop-name : goal.invariant-loop-name
invariant-loop-name l =
    follow (schema_of l.schema) (map text_of (drop l.name-index l.names)) (option_map route_of l.last)
    ≡ follow (schema_of l.fn.schema) (map text_of l.fn.names) (option_map route_of l.fn.first)
