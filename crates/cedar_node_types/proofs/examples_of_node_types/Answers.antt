use Rattle.cedar_node_types.proofs.Examples.NodeTypes.{node_type_examples}
use Rattle.cedar_node_types.proofs.Examples.NodeTypeConclusions.{node_type_conclusions}
use Rattle.cedar_node_types.proofs.Examples.NodeTypePremises.{type_premises_needed}
use Rattle.cedar_node_types.proofs.Examples.Reached.{reached_examples}
use Rattle.cedar_node_types.proofs.examples_of_node_types.Goals as goal

pub returns : goal.returns
returns c = record {
  reached = reached_examples;
  types = node_type_examples;
  premises = type_premises_needed;
  conclusions = node_type_conclusions;
}
