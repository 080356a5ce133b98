use Rattle.cedar_types.proofs.Bounds.Laws.{idempotent}
use Rattle.cedar_types.proofs.base.type_laws.bound_is_idempotent.Goals as goal

pub returns : goal.returns
returns c = idempotent
