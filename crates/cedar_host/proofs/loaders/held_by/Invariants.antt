use Rattle.std.proofs.Common.{◌≡◌, map, take}
use Rattle.std.specs.List.{flat_map}
use Rattle.cedar_types.specs.Names.{uid_of}
use Rattle.cedar_conformance.specs.Entities.{store_of}
use Rattle.cedar_host.specs.Loaders.{held_in}
use Rattle.cedar_host.proofs.loaders.held_by.Given as goal

-- the ids that the entities of the ids so far hold
abbrev pub invariant-loop-id : goal.invariant-loop-id
invariant-loop-id l =
    map uid_of l.all.items ≡ flat_map (held_in (store_of l.entities)) (map uid_of (take l.id-index l.ids))
