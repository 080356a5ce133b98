use Rattle.std.proofs.Common.{◌+◌, ◌≤◌, length}
use Rattle.std.specs.HashSet.{spare}
use Rattle.std.specs.Set.{IsUnion}
use Rattle.cedar_typing.proofs.typecheck.sets.put_all.Given as goal

-- the set has room for the members that are left
abbrev pub invariant-loop-x : goal.invariant-loop-x
invariant-loop-x g l =
    (length l.fn.found.keys ≤ spare l.set + length l.yielded)
    × IsUnion g.E.PartialEq.eq l.initial.set.keys l.yielded l.set.keys
