use Rattle.cedar_types.specs.Capability.{caps}
use Rattle.cedar_types.proofs.Caps.{adds_is, keeps_is}
use Rattle.cedar_types.proofs.types.capability.CapabilitySet.insert.Goals as goal

pub returns-clause-added : goal.returns-clause-added
unfolding caps
returns-clause-added c = adds_is c.insert.result c.args.c c.args.self.now.set c.insert.new.self c.insert.ensures.added

pub returns-clause-kept : goal.returns-clause-kept
unfolding caps
returns-clause-kept c = keeps_is c.insert.result c.args.self.now.set c.insert.new.self c.insert.ensures.kept
