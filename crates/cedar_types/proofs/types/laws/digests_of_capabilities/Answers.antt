use Rattle.cedar_types.proofs.Digests.{one_digest}
use Rattle.cedar_types.proofs.types.laws.digests_of_capabilities.Goals as goal

pub returns : goal.returns
returns a = one_digest
