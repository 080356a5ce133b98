use Rattle.std.proofs.Common.{[], ◌∷◌, map, refl}
use Rattle.cedar_where.specs.Sql.{sql_is_true}
use Rattle.cedar_where.specs.Views.{sql_of}
use Rattle.cedar_where.proofs.SetsAgree.{keeps_on, tells_it}
use Rattle.cedar_where.proofs.sets.any_true.Goals as goal

pub loop-preserved : goal.loop-preserved
loop-preserved c =
    keeps_on (map sql_is_true (map sql_of c.args.clauses.items)) (map sql_of c.loop.tests.items)
    (map sql_of c.in_ok-tests-2.tests.items) c.loop.invariant c.in_ok-tests-2.ensures

pub returns : goal.returns
returns c =
    let clauses = map sql_of c.args.clauses.items in
    tells_it clauses (map sql_is_true clauses) (sql_of c.in_ok-any.any) refl
    (keeps_on (map sql_is_true clauses) (map sql_of c.loop.tests.items) (sql_of c.in_ok-any.any ∷ [])
    c.loop.invariant c.in_ok-any.ensures)
