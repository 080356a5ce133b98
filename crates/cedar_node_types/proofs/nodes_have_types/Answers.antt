use Rattle.cedar_node_types.proofs.NodeTypes.Laws.{copies_have_types, successes_have_types, passing_have_types}
use Rattle.cedar_node_types.proofs.nodes_have_types.Goals as goal

pub returns : goal.returns
returns c = record { copies = copies_have_types; successes = successes_have_types; passing = passing_have_types }
