use Rattle.std.specs.Cmp.{tied_itself}
use Rattle.cedar_tests.specs.contracts.types_tests.collisions.SevenOrd.TheImpl.Laws as ord_laws
use Rattle.cedar_tests.proofs.types_tests.collisions.SevenEntry.copy.Goals as goal

pub returns : goal.returns
returns c = tied_itself ord_laws.total-law c.args.self.now
