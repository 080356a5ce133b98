use Rattle.std.proofs.Common.{ap, ◌∙◌}
use Rattle.cedar_types.specs.Capability.{among, cap_eq, cap_of, caps_so_far}
use Rattle.cedar_types.proofs.Caps.{point, put_in}
use Rattle.cedar_types.proofs.types.capability.builder.CapabilitySetBuilder.insert.Goals as goal

pub returns-clause-added : goal.returns-clause-added
unfolding caps_so_far
returns-clause-added c = λ q.
    ap (λ ks. among ks q) c.in_ok-insert.ensures.keys
    ∙ put_in (λ k. cap_eq q (cap_of k)) (point q) c.args.self.now.set.keys c.args.c
