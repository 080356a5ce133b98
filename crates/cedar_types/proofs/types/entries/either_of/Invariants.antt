use Rattle.std.proofs.Common.{length, ◌+◌}
use Rattle.cedar_types.proofs.Entries.Unions.{Merging}
use Rattle.cedar_types.proofs.types.entries.either_of.Given as goal

abbrev pub invariant-loop-entry : goal.invariant-loop-entry
invariant-loop-entry g l = Merging g.T.Ord.cmp l.left l.right l.all.items l.xs l.ys

abbrev pub decreases-loop-entry : goal.decreases-loop-entry
decreases-loop-entry g l = length l.xs + length l.ys
