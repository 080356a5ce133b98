use Rattle.std.proofs.Common.{◌≡◌, drop}
use Rattle.cedar_types.specs.Names.{uid_of}
use Rattle.cedar_examples.specs.Memory.{links_of}
use Rattle.cedar_examples.proofs.memory.MemoryEntities.held.Given as goal

-- none of the entities so far has the id
abbrev pub invariant-loop-entity : goal.invariant-loop-entity
invariant-loop-entity l =
    links_of l.fn.self.entities.items (uid_of l.id)
    ≡ links_of (drop l.entity-index l.fn.self.entities.items) (uid_of l.id)
