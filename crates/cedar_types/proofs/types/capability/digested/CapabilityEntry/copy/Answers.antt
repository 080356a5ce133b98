use Rattle.cedar_types.proofs.Caps.{copy_is}
use Rattle.cedar_types.proofs.types.capability.digested.CapabilityEntry.copy.Goals as goal

pub returns : goal.returns
returns c = copy_is c.try_clone.result c.args.self.now c.try_clone.ensures
