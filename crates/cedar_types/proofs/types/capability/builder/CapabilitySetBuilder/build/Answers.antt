use Rattle.std.proofs.Common.{ap}
use Rattle.cedar_types.specs.Capability.{among, caps, caps_so_far}
use Rattle.cedar_types.proofs.types.capability.builder.CapabilitySetBuilder.build.Goals as goal

pub returns : goal.returns
unfolding caps caps_so_far
returns c = λ q. ap (λ ks. among ks q) c.in_ok-set.ensures
