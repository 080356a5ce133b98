use Rattle.std.proofs.Common.{map, sym, subst}
use Rattle.cedar_where.specs.Sets.{KeepsAny}
use Rattle.cedar_where.specs.Views.{sql_of}
use Rattle.cedar_where.proofs.sets.in_pairs.Goals as goal

pub returns : goal.returns
returns c =
    subst (KeepsAny (map sql_of c.args.tests.items)) (sym c.in_ok-all.ensures) c.in_ok-pairs.ensures
