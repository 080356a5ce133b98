use Rattle.std.proofs.Common.{ap}
use Rattle.cedar_types.specs.Capability.{among, caps}
use Rattle.cedar_types.proofs.types.capability.CapabilitySet.as_slice.Goals as goal

pub returns : goal.returns
unfolding caps
returns c = λ q. ap (λ xs. among xs q) c.as_slice.ensures
