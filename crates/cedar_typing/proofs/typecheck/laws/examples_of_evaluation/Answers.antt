use Rattle.cedar_typing.proofs.Examples.Evaluation.{leaf_examples, test_examples, number_examples, equality_examples, set_examples}
use Rattle.cedar_typing.proofs.Examples.Evaluation.{membership_examples, ancestor_examples, attribute_examples, tag_examples}
use Rattle.cedar_typing.proofs.Examples.Evaluation.{pattern_examples, call_examples, order_examples}
use Rattle.cedar_typing.proofs.typecheck.laws.examples_of_evaluation.Goals as goal

pub returns : goal.returns
returns c = record {
  leaves = leaf_examples;
  tests = test_examples;
  numbers = number_examples;
  equality = equality_examples;
  sets = set_examples;
  memberships = membership_examples;
  ancestors = ancestor_examples;
  attributes = attribute_examples;
  tags = tag_examples;
  patterns = pattern_examples;
  calls = call_examples;
  order = order_examples;
}
