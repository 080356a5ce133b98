use Rattle.cedar_node_types.proofs.NodeTypes.Laws.{copies_fit_types, checks_fit_types}
use Rattle.cedar_node_types.proofs.reached_nodes_fit.Goals as goal

pub returns : goal.returns
returns c = record { copies = copies_fit_types; checks = checks_fit_types }
