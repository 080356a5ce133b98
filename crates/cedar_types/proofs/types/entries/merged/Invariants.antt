use Rattle.std.proofs.Common.{length, ◌+◌}
use Rattle.cedar_types.proofs.Entries.Unions.{Merging}
use Rattle.cedar_types.proofs.types.entries.merged.Given as goal

abbrev pub invariant-loop-entry : goal.invariant-loop-entry
invariant-loop-entry g l = Merging g.T.Ord.cmp l.fn.left.items l.fn.right.items l.all.items l.xs.items l.ys.items

abbrev pub decreases-loop-entry : goal.decreases-loop-entry
decreases-loop-entry g l = length l.xs.items + length l.ys.items
