-- The examples of evaluation compute to the outcomes that are stated.
use Rattle.std.proofs.Common.{refl}
use Rattle.cedar_typing.specs.Examples.Evaluation.Ancestors.{AncestorExamples}
use Rattle.cedar_typing.specs.Examples.Evaluation.Calls.{PatternExamples, CallExamples, OrderExamples}
use Rattle.cedar_typing.specs.Examples.Evaluation.Entities.{MembershipExamples, AttributeExamples, TagExamples}
use Rattle.cedar_typing.specs.Examples.Evaluation.Leaves.{LeafExamples, TestExamples}
use Rattle.cedar_typing.specs.Examples.Evaluation.Operators.{NumberExamples, EqualityExamples, SetExamples}

pub leaf_examples : LeafExamples
leaf_examples = record {
  literal_bool = refl;
  literal_long = refl;
  literal_string = refl;
  literal_entity = refl;
  principal = refl;
  action = refl;
  resource = refl;
  context = refl;
  slot_bound = refl;
  slot_unlinked = refl;
  unknown_fails = refl;
  set_empty = refl;
  set_of_two = refl;
  set_first_failure = refl;
  set_later_failure = refl;
  record_empty = refl;
  record_of_two = refl;
  record_first_failure = refl;
  record_other_failure = refl;
  record_later_failure = refl;
}

pub test_examples : TestExamples
test_examples = record {
  if_true = refl;
  if_false = refl;
  if_taken_fails = refl;
  if_not_bool = refl;
  if_test_fails = refl;
  and_false = refl;
  or_true = refl;
  not_true = refl;
  not_false = refl;
  not_of_long = refl;
  not_fails = refl;
}

pub number_examples : NumberExamples
number_examples = record {
  negated = refl;
  negated_greatest = refl;
  negated_least = refl;
  negated_text = refl;
  added = refl;
  added_greatest = refl;
  added_overflow = refl;
  added_underflow = refl;
  added_right_text = refl;
  added_left_text = refl;
  subtracted = refl;
  subtracted_least = refl;
  subtracted_overflow = refl;
  subtracted_right_bool = refl;
  subtracted_left_bool = refl;
  multiplied = refl;
  multiplied_least = refl;
  multiplied_overflow = refl;
  multiplied_right_entity = refl;
  multiplied_left_entity = refl;
  less = refl;
  less_itself = refl;
  less_greater = refl;
  at_most_itself = refl;
  at_most_greater = refl;
  at_most_smaller = refl;
  less_decimal = refl;
  less_decimal_back = refl;
  less_decimal_itself = refl;
  at_most_decimal = refl;
  at_most_decimal_back = refl;
  at_most_duration = refl;
  less_address = refl;
  at_most_two_types = refl;
  less_two_types = refl;
  less_long_decimal = refl;
  at_most_decimal_long = refl;
  less_texts = refl;
  at_most_text = refl;
}

pub equality_examples : EqualityExamples
equality_examples = record {
  bool_equal = refl;
  bool_other = refl;
  long_equal = refl;
  long_other = refl;
  text_equal = refl;
  text_other = refl;
  entity_equal = refl;
  entity_other = refl;
  entity_other_type = refl;
  set_equal = refl;
  set_fewer = refl;
  set_more = refl;
  set_of_sets = refl;
  record_equal = refl;
  record_order = refl;
  record_other_value = refl;
  record_other_key = refl;
  record_fewer = refl;
  record_more = refl;
  extension_equal = refl;
  extension_other = refl;
  extension_other_type = refl;
  extension_and_text = refl;
  extension_same_text = refl;
  other_kind = refl;
  set_and_record = refl;
  set_and_member = refl;
  equal_left_fails = refl;
  equal_right_fails = refl;
}

pub set_examples : SetExamples
set_examples = record {
  empty = refl;
  not_empty = refl;
  empty_of_record = refl;
  empty_of_text = refl;
  contains = refl;
  contains_not = refl;
  contains_set = refl;
  contains_part = refl;
  contains_of_long = refl;
  contains_all = refl;
  contains_all_not = refl;
  contains_all_none = refl;
  contains_all_left = refl;
  contains_all_right = refl;
  contains_any = refl;
  contains_any_not = refl;
  contains_any_none = refl;
  contains_any_left = refl;
  contains_any_right = refl;
}

pub membership_examples : MembershipExamples
membership_examples = record {
  in_itself = refl;
  in_itself_missing = refl;
  in_ancestor = refl;
  in_child = refl;
  in_of_missing = refl;
  in_set = refl;
  in_no_member = refl;
  in_empty = refl;
  in_of_long = refl;
  in_long = refl;
  in_mixed_set = refl;
  in_of_long_empty = refl;
  is_user = refl;
  is_group = refl;
  is_of_missing = refl;
  is_of_long = refl;
  is_fails = refl;
}

pub ancestor_examples : AncestorExamples
ancestor_examples = record {
  not_stored = refl;
  in_ancestor = refl;
  in_missing = refl;
  in_set_of_missing = refl;
  in_second = refl;
  in_set_of_second = refl;
}

pub attribute_examples : AttributeExamples
attribute_examples = record {
  get = refl;
  get_entity = refl;
  get_of_record = refl;
  get_absent = refl;
  get_absent_of_record = refl;
  get_tag_name = refl;
  get_of_missing = refl;
  get_of_long = refl;
  get_of_text = refl;
  get_fails = refl;
  has_it = refl;
  has_not = refl;
  has_of_missing = refl;
  has_of_record = refl;
  has_not_of_record = refl;
  has_of_long = refl;
  has_fails = refl;
  has_all = refl;
  has_first_absent = refl;
  has_later_absent = refl;
  has_middle_absent = refl;
  has_three = refl;
  has_all_of_missing = refl;
  has_later_missing = refl;
  has_later_long = refl;
  has_all_of_long = refl;
  has_all_fails = refl;
}

pub tag_examples : TagExamples
tag_examples = record {
  has_tag = refl;
  has_no_tag = refl;
  has_tag_attribute = refl;
  has_tag_of_missing = refl;
  has_tag_of_record = refl;
  has_tag_long = refl;
  has_tag_long_of_missing = refl;
  get_tag = refl;
  get_absent_tag = refl;
  get_tag_of_missing = refl;
  get_tag_of_long = refl;
  get_tag_long = refl;
  get_tag_long_of_missing = refl;
}

pub pattern_examples : PatternExamples
unfolding lib.Utf8.encode
pattern_examples = record {
  like_text = refl;
  like_part = refl;
  like_more = refl;
  like_empty = refl;
  like_run = refl;
  like_none = refl;
  like_none_at_all = refl;
  like_later = refl;
  like_wildcards = refl;
  like_wildcards_not = refl;
  like_not = refl;
  like_bytes = refl;
  like_bytes_run = refl;
  like_bytes_not = refl;
  like_bytes_within = refl;
  like_four_bytes = refl;
  like_star = refl;
  like_long = refl;
  like_fails = refl;
}

pub call_examples : CallExamples
call_examples = record {
  call_value = refl;
  call_equal = refl;
  call_no_value = refl;
  call_long = refl;
  call_no_argument = refl;
  call_more = refl;
  call_unknown = refl;
  call_other_path = refl;
  call_two = refl;
  call_two_back = refl;
  call_sum = refl;
  call_sum_one = refl;
  call_sum_three = refl;
  call_fails = refl;
  call_later_fails = refl;
  call_first_failure = refl;
}

pub order_examples : OrderExamples
order_examples = record {
  add_right_missing = refl;
  add_left_missing = refl;
  add_overflow_missing = refl;
  add_missing_overflow = refl;
  subtract_missing = refl;
  multiply_missing = refl;
  less_missing = refl;
  at_most_missing = refl;
  in_missing = refl;
  contains_missing = refl;
  contains_all_missing = refl;
  contains_any_missing = refl;
  has_tag_missing = refl;
  get_tag_missing = refl;
  negate_missing = refl;
  is_empty_missing = refl;
}
