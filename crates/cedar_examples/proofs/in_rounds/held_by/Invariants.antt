use Rattle.std.proofs.Common.{◌≡◌, map, take}
use Rattle.std.specs.List.{flat_map}
use Rattle.cedar_types.specs.Names.{uid_of}
use Rattle.cedar_examples.proofs.in_rounds.held_by.Given as goal

-- the ids that the entities so far hold
abbrev pub invariant-loop-id : goal.invariant-loop-id
invariant-loop-id g l =
    map uid_of l.all.items
    ≡ flat_map (g.E.Entities.answered l.entities) (map uid_of (take l.id-index l.wanted))
