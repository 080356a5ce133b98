use Rattle.cedar_types.specs.Capability.{caps, cap_eq, cap_of}
use Rattle.cedar_types.proofs.Caps.{point}
use Rattle.cedar_types.proofs.types.capability.CapabilitySet.join.Goals as goal

pub returns : goal.returns
unfolding caps
returns c = λ q. c.in_ok-set.ensures (λ k. cap_eq q (cap_of k)) (point q)
