use Rattle.std.proofs.Common.{map}
use Rattle.cedar_where.specs.Sets.{KeepsAny}
use Rattle.cedar_where.specs.Views.{sql_held, sql_of}
use Rattle.cedar_where.proofs.sets.any_of_some.Given as goal

-- the test that is held stands for the tests so far
abbrev pub invariant-loop-test : goal.invariant-loop-test
invariant-loop-test l = KeepsAny (map sql_of l.yielded) (sql_held l.any)
