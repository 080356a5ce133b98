use Rattle.cedar_types.proofs.Bounds.Laws.{subtyping_transitive}
use Rattle.cedar_types.proofs.base.type_laws.subtyping_is_transitive.Goals as goal

pub returns : goal.returns
returns c = subtyping_transitive
