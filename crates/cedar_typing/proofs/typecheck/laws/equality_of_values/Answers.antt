use Rattle.cedar_typing.proofs.Values.Laws.{equality, no_order}
use Rattle.cedar_typing.proofs.typecheck.laws.equality_of_values.Goals as goal

pub returns : goal.returns
returns c = record { equivalence = equality; order = no_order }
