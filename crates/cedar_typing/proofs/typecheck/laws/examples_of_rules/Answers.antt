use Rattle.cedar_typing.proofs.Examples.Rules.{leaf_typing, and_typing, or_typing, unary_typing, conditional_typing, set_typing, record_typing}
use Rattle.cedar_typing.proofs.Examples.Rules.Calls.{call_typing, argument_typing}
use Rattle.cedar_typing.proofs.Examples.Rules.Entities.{has_typing, get_typing, chain_typing, action_membership_typing, membership_typing}
use Rattle.cedar_typing.proofs.Examples.Rules.Entities.{has_tag_typing, get_tag_typing}
use Rattle.cedar_typing.proofs.Examples.Rules.Nesting.{nesting_typing, check_typing}
use Rattle.cedar_typing.proofs.Examples.Rules.Operators.{operator_typing, number_typing, equality_typing, member_typing}
use Rattle.cedar_typing.proofs.typecheck.laws.examples_of_rules.Goals as goal

pub returns : goal.returns
returns c = record {
  leaves = leaf_typing;
  conjunctions = and_typing;
  disjunctions = or_typing;
  unary = unary_typing;
  conditionals = conditional_typing;
  has_attribute = has_typing;
  get_attribute = get_typing;
  chains = chain_typing;
  action_memberships = action_membership_typing;
  memberships = membership_typing;
  has_tag = has_tag_typing;
  get_tag = get_tag_typing;
  operators = operator_typing;
  numbers = number_typing;
  equality = equality_typing;
  members = member_typing;
  sets = set_typing;
  records = record_typing;
  calls = call_typing;
  arguments = argument_typing;
  nesting = nesting_typing;
  checks = check_typing;
}
