use Rattle.std.proofs.Common.{refl}
use Rattle.cedar_c.specs.Buffers.{no_memory}
use Rattle.cedar_c.proofs.buffers.hand_over_or_keep.Goals as goal

pub returns-in_default-clause-handed : goal.returns-in_default-clause-handed
returns-in_default-clause-handed c = no_memory (record { same = refl; none = refl })
