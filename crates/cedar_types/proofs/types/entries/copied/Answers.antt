use Rattle.cedar_types.proofs.Entries.Ascending.{sorted_none}
use Rattle.cedar_types.proofs.types.entries.copied.Goals as goal

pub either_of-requires-clause-right : goal.either_of-requires-clause-right
either_of-requires-clause-right g c = sorted_none g.met.T.Ord.total
