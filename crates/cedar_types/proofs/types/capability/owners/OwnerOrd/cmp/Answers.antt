use Rattle.std.proofs.Common.{◌∙◌}
use Rattle.cedar_types.specs.Accesses.{owner_cmp, spine_cmp}
use Rattle.cedar_types.proofs.types.capability.owners.OwnerOrd.cmp.Goals as goal

pub returns : goal.returns
unfolding owner_cmp
returns c = c.compare.ensures ∙ (λ i. spine_cmp (c.accesses.ensures.spine i) (c.accesses-2.ensures.spine i))
