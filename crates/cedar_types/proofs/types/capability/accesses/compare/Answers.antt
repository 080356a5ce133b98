use Rattle.std.proofs.Common.{sym, ◌∙◌}
use Rattle.cedar_types.specs.Accesses.{bottom_cmp, spine_cmp}
use Rattle.cedar_types.proofs.types.capability.accesses.compare.Goals as goal

pub returns-in-None-None : goal.returns-in-None-None
unfolding bottom_cmp
returns-in-None-None c =
    c.cmp.ensures ∙ sym (λ i. spine_cmp (c.in-None-None.ensures i) (c.in-None-None.ensures' i)) ∙ c.loop-one.invariant
