use Rattle.std.proofs.Common.{◌∙◌}
use Rattle.cedar_types.proofs.Comparisons.Types.{types_same}
use Rattle.cedar_types.proofs.base.types.flat_bounds.is_same.Goals as goal

pub returns : goal.returns
returns c = c.eq.ensures ∙ types_same c.args.ty0.now c.args.ty1.now
