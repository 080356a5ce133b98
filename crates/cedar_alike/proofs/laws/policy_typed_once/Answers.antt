use Rattle.cedar_alike.proofs.Alike.Conditions.{policy_agreement_is_enough}
use Rattle.cedar_alike.proofs.laws.policy_typed_once.Goals as goal

pub returns : goal.returns
returns c = policy_agreement_is_enough
