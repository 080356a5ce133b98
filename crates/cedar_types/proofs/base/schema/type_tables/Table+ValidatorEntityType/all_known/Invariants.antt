use Rattle.std.proofs.Common.{◌≡◌, map}
use Rattle.std.specs.List.{list_all}
use Rattle.cedar_types.specs.Names.{type_of}
use Rattle.cedar_types.specs.Types.{types_of}
use Rattle.cedar_types.specs.Schemas.{knows_type}
use Rattle.cedar_types.specs.Schemas.Tables.{types_in}
use Rattle.cedar_types.proofs.base.schema.type_tables.Table+ValidatorEntityType.all_known.Given as goal

-- The remaining names decide the answer
abbrev pub invariant-loop-name : goal.invariant-loop-name
invariant-loop-name l =
    list_all (knows_type (types_in l.self)) (map type_of l.name-iterator)
    ≡ list_all (knows_type (types_in l.fn.self)) (types_of l.fn.names)
