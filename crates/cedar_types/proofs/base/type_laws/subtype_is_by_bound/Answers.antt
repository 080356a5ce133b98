use Rattle.cedar_types.proofs.Bounds.Laws.{by_bound}
use Rattle.cedar_types.proofs.base.type_laws.subtype_is_by_bound.Goals as goal

pub returns : goal.returns
returns c = by_bound
