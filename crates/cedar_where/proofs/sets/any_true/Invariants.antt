use Rattle.std.proofs.Common.{map}
use Rattle.cedar_where.specs.Sets.{KeepsAny}
use Rattle.cedar_where.specs.Sql.{sql_is_true}
use Rattle.cedar_where.specs.Views.{sql_of}
use Rattle.cedar_where.proofs.sets.any_true.Given as goal

-- the tests stand for those of the clauses
abbrev pub invariant-loop : goal.invariant-loop
invariant-loop l = KeepsAny (map sql_is_true (map sql_of l.fn.clauses.items)) (map sql_of l.tests.items)
