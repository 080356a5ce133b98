use Rattle.std.proofs.Common.{ap, ◌∙◌, ◌||◌}
use Rattle.cedar_types.specs.Capability.{caps, among, cap_eq, cap_of}
use Rattle.cedar_types.proofs.Caps.{point}
use Rattle.cedar_types.proofs.types.capability.CapabilitySet.singleton.Goals as goal

pub returns : goal.returns
unfolding caps
returns c = λ q.
    c.in_ok-insert.ensures.added (λ k. cap_eq q (cap_of k)) (point q)
    ∙ ap (λ ks. among ks q || cap_eq q (cap_of c.args.c)) c.new-set.ensures
