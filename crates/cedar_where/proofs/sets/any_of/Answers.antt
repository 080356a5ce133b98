use Rattle.std.proofs.Common.{map, subst}
use Rattle.cedar_where.specs.Sets.{KeepsAny}
use Rattle.cedar_where.specs.Views.{sql_held, sql_of}
use Rattle.cedar_where.proofs.sets.any_of.Goals as goal

pub returns-in-Some : goal.returns-in-Some
returns-in-Some c =
    subst (λ o. KeepsAny (map sql_of c.args.tests.items) (sql_held o)) c.in-Some.is c.in_ok-held.ensures
