use Rattle.cedar_types.proofs.Bounds.Laws.{bound_symmetric}
use Rattle.cedar_types.proofs.base.type_laws.bound_is_symmetric.Goals as goal

pub returns : goal.returns
returns c = bound_symmetric
