use Rattle.cedar_types.proofs.Bounds.Laws.{bound_upper}
use Rattle.cedar_types.proofs.base.type_laws.bound_is_an_upper_bound.Goals as goal

pub returns : goal.returns
returns c = bound_upper
