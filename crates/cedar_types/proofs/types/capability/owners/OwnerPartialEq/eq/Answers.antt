use Rattle.std.proofs.Common.{ap, sym, ◌∙◌}
use Rattle.std.specs.Ordering.{is_eq}
use Rattle.cedar_types.specs.Accesses.{owner_cmp, spine_cmp}
use Rattle.cedar_types.specs.Lemmas.Accesses.{owner_cmp_ties}
use Rattle.cedar_types.proofs.types.capability.owners.OwnerPartialEq.eq.Goals as goal

pub returns : goal.returns
unfolding owner_cmp
returns c =
    c.is_eq.ensures
    ∙ ap is_eq (c.compare.ensures ∙ (λ i. spine_cmp (c.accesses.ensures.spine i) (c.accesses-2.ensures.spine i)))
    ∙ sym (owner_cmp_ties c.args.self.now c.args.other.now)
