-- The examples of operators, of equality, and of members of sets.
use Rattle.std.proofs.Common.{refl}
use Rattle.cedar_typing.specs.Examples.Rules.Equality.{EqualityTyping, MemberTyping}
use Rattle.cedar_typing.specs.Examples.Rules.Numbers.{OperatorTyping, NumberTyping}
use Rattle.cedar_typing.proofs.Examples.Rules.{is_typed, is_refused}

pub operator_typing : OperatorTyping
operator_typing = record {
  negation = is_typed refl;
  negation_refused = is_refused refl;
  negation_missing = is_refused refl;
  empty = is_typed refl;
  empty_refused = is_refused refl;
  like_text = is_typed refl;
  like_refused = is_refused refl;
  is_it = is_typed refl;
  is_another = is_typed refl;
  is_one_of_two = is_typed refl;
  is_none_of_two = is_typed refl;
  is_of_any = is_typed refl;
  is_of_never = is_refused refl;
  is_refused = is_refused refl;
  is_missing = is_refused refl;
}

pub number_typing : NumberTyping
number_typing = record {
  sum = is_typed refl;
  sum_refused = is_refused refl;
  difference = is_typed refl;
  product = is_typed refl;
  compared = is_typed refl;
  compared_at_most = is_typed refl;
  left_is_long = is_refused refl;
  right_is_long = is_refused refl;
  decimal_and_long = is_refused refl;
  long_and_decimal = is_refused refl;
  decimals = is_typed refl;
  decimals_at_most = is_typed refl;
  left_is_decimal = is_refused refl;
  right_is_decimal = is_refused refl;
  decimal_and_duration = is_refused refl;
  neither_compared = is_refused refl;
  addresses = is_refused refl;
  in_order = is_refused refl;
  decimal_failed = is_refused refl;
  side_missing = is_refused refl;
  never_and_long = is_typed refl;
  long_and_never = is_typed refl;
  never_and_decimal = is_typed refl;
  duration_and_never = is_typed refl;
  never_and_text = is_refused refl;
  text_and_never = is_refused refl;
  two_nevers = is_refused refl;
}

pub equality_typing : EqualityTyping
equality_typing = record {
  same_literals = is_typed refl;
  other_literals = is_typed refl;
  mixed_literals = is_typed refl;
  action_is = is_typed refl;
  action_is_itself = is_typed refl;
  undeclared_action = is_refused refl;
  disjoint = is_typed refl;
  of_one_type = is_typed refl;
  unbound = is_refused refl;
  unbound_permissive = is_typed refl;
  side_missing = is_refused refl;
}

pub member_typing : MemberTyping
member_typing = record {
  has_member = is_typed refl;
  no_member = is_refused refl;
  no_member_permissive = is_typed refl;
  no_set = is_refused refl;
  has_members = is_typed refl;
  has_some_members = is_typed refl;
  no_members = is_refused refl;
  no_right_set = is_refused refl;
}
