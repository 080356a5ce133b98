use Rattle.std.proofs.Common.{map}
use Rattle.cedar_where.specs.Sets.{TestsEach}
use Rattle.cedar_where.specs.Views.{sql_of}
use Rattle.cedar_where.proofs.sets.each_is_true.Given as goal

-- a test of each clause so far
abbrev pub invariant-loop-clause : goal.invariant-loop-clause
invariant-loop-clause l = TestsEach (map sql_of l.yielded) (map sql_of l.tests.items)
