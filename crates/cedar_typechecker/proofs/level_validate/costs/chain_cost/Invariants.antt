use Rattle.std.proofs.Common.{◌≡◌, ◌+◌, ◌≤◌, map, drop}
use Rattle.cedar_types.specs.Names.{text_of}
use Rattle.cedar_types.specs.Schemas.Contents.{schema_of}
use Rattle.cedar_types.specs.Types.{ty_of}
use Rattle.cedar_typechecker.specs.Levels.Costs.{steps_cost, chain_cost}
use Rattle.cedar_typechecker.proofs.level_validate.costs.chain_cost.Given as goal

-- the cost so far, and that of the attributes to come. Each costs one at most, and so does the root
abbrev pub invariant-loop-next : goal.invariant-loop-next
invariant-loop-next l =
    (l.cost + steps_cost (schema_of l.schema) (ty_of l.reached) (text_of l.attr)
    (map text_of (drop l.next-index l.rest))
    ≡ chain_cost (schema_of l.schema) (ty_of l.root) (text_of l.first) (map text_of l.rest))
    × (l.cost ≤ l.next-index + 1)
