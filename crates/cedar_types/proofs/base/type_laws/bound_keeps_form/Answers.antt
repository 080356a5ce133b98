use Rattle.cedar_types.proofs.Bounds.Laws.{bound_form}
use Rattle.cedar_types.proofs.base.type_laws.bound_keeps_form.Goals as goal

pub returns : goal.returns
returns c = bound_form
