use Rattle.std.proofs.Common.{◌&&◌, ◌||◌, not, ap, ◌∙◌}
use Rattle.cedar_types.specs.Types.{ty_of}
use Rattle.cedar_typing.proofs.Rules.Chains.{earns_itself}
use Rattle.cedar_typing.proofs.typecheck.rules.chains.knows_after.Goals as goal

pub returns : goal.returns
returns c a h there =
    ap (λ b. c.args.is_known || b)
    ((λ i. c.args.is_declared && not (c.is_true_type.ensures i)) ∙ earns_itself (ty_of c.args.ty.now) there a c.args.is_declared h)
