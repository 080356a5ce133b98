use Rattle.cedar_node_types.proofs.NodeTypes.Policies.{condition_types_hold}
use Rattle.cedar_node_types.proofs.condition_types_hold.Goals as goal

pub returns : goal.returns
returns c = condition_types_hold
