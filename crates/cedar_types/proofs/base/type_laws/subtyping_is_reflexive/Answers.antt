use Rattle.cedar_types.proofs.Bounds.Laws.{reflexive}
use Rattle.cedar_types.proofs.base.type_laws.subtyping_is_reflexive.Goals as goal

pub returns : goal.returns
returns c = reflexive
