use Rattle.std.proofs.Common.{ap}
use Rattle.cedar_types.specs.Capability.{among, caps_so_far}
use Rattle.cedar_types.proofs.types.capability.builder.CapabilitySetBuilder.new.Goals as goal

pub returns : goal.returns
unfolding caps_so_far
returns c = λ q. ap (λ ks. among ks q) c.new.ensures.empty
