use Rattle.cedar_types.specs.Extensions.{functions_of}
use Rattle.cedar_types.proofs.Expressions.SortedTables.{no_fault}
use Rattle.cedar_types.proofs.base.laws.extension_tables_are_faultless.Goals as goal

pub returns : goal.returns
unfolding functions_of
returns g c = λ meaning. no_fault meaning c.args.s.now.functions.items c.args.s.now.faultless
