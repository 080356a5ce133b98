use Rattle.std.proofs.Common.{ap, sym, ◌∙◌}
use Rattle.cedar_types.specs.Accesses.{shape_on}
use Rattle.cedar_types.specs.Capability.{known_of, cap_of}
use Rattle.cedar_types.proofs.Digests.{digests_same}
use Rattle.cedar_types.proofs.types.capability.digested.Capability.try_clone.Goals as goal

pub invariant_of-result : goal.invariant_of-result
invariant_of-result c =
    let s = shape_on c.in_ok-on_expr.on_expr in
    let t = shape_on c.args.self.now.on_expr in
    record {
      of_its_shape =
          c.args.self.now.of_its_shape
          ∙ sym (digests_same s t c.in_ok-known.known c.args.self.now.known
          (c.in_ok-known.ensures s ∙ ap (λ u. known_of u c.args.self.now.known) c.in_ok-on_expr.ensures));
    }

pub returns : goal.returns
unfolding cap_of
returns c =
    c.in_ok-known.ensures (shape_on c.in_ok-on_expr.on_expr)
    ∙ ap (λ u. known_of u c.args.self.now.known) c.in_ok-on_expr.ensures
