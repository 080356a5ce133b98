use Rattle.std.proofs.Common.{length, ◌+◌}
use Rattle.cedar_types.proofs.Entries.Intersections.{Meeting}
use Rattle.cedar_types.proofs.types.entries.both_of.Given as goal

abbrev pub invariant-loop-x : goal.invariant-loop-x
invariant-loop-x g l = Meeting g.T.Ord.cmp l.left l.right l.common.items l.xs l.ys

abbrev pub decreases-loop-x : goal.decreases-loop-x
decreases-loop-x g l = length l.xs + length l.ys
