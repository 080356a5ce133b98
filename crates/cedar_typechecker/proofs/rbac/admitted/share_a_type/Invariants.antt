use Rattle.std.proofs.Common.{◌≡◌, map}
use Rattle.std.specs.List.{list_any}
use Rattle.cedar_types.specs.Names.{type_of}
use Rattle.cedar_types.specs.Schemas.{is_among}
use Rattle.cedar_types.specs.Types.{types_of}
use Rattle.cedar_typechecker.proofs.rbac.admitted.share_a_type.Given as goal

-- the types that are left decide, because none so far is in both sets
abbrev pub invariant-loop-other : goal.invariant-loop-other
invariant-loop-other l =
    list_any (is_among (types_of l.types)) (map type_of l.other-iterator)
    ≡ list_any (is_among (types_of l.fn.types)) (types_of l.fn.others)
