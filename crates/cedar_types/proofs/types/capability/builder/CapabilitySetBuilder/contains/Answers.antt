use Rattle.std.proofs.Common.{◌∙◌}
use Rattle.cedar_types.specs.Capability.{caps_so_far}
use Rattle.cedar_types.proofs.Caps.{found_is}
use Rattle.cedar_types.proofs.types.capability.builder.CapabilitySetBuilder.contains.Goals as goal

pub returns : goal.returns
unfolding caps_so_far
returns c = c.contains.ensures ∙ found_is c.args.c.now c.args.self.now.set.keys
