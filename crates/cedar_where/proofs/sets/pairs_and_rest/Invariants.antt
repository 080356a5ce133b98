use Rattle.std.proofs.Common.{◌++◌, map}
use Rattle.cedar_where.specs.Sets.{KeepsAny}
use Rattle.cedar_where.specs.Views.{sql_held, sql_of}
use Rattle.cedar_where.proofs.sets.pairs_and_rest.Given as goal

-- the pairs so far, with the test that is held, stand for the tests so far
abbrev pub invariant-loop-test : goal.invariant-loop-test
invariant-loop-test l = KeepsAny (map sql_of l.yielded) (map sql_of l.pairs.items ++ sql_held l.held)
