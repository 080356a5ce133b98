use Rattle.std.proofs.Common.{◌≡◌, map, take}
use Rattle.cedar_types.specs.Names.{uid_of}
use Rattle.cedar_examples.proofs.memory.copies.Given as goal

-- the ids so far are copied
abbrev pub invariant-loop-id : goal.invariant-loop-id
invariant-loop-id l = map uid_of l.copies.items ≡ map uid_of (take l.id-index l.ids)
