use Rattle.cedar_alike.proofs.Alike.Laws.{agreement_is_enough}
use Rattle.cedar_alike.proofs.laws.typed_once.Goals as goal

pub returns : goal.returns
returns c = agreement_is_enough
