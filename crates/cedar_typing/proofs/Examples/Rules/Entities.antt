-- The examples of expressions about entities: attributes, ancestors and tags.
use Rattle.std.proofs.Common.{refl}
use Rattle.cedar_typing.specs.Examples.Rules.Attributes.{HasTyping, GetTyping}
use Rattle.cedar_typing.specs.Examples.Rules.Chains.{ChainTyping}
use Rattle.cedar_typing.specs.Examples.Rules.Membership.{ActionMembershipTyping, MembershipTyping}
use Rattle.cedar_typing.specs.Examples.Rules.Tags.{HasTagTyping, GetTagTyping}
use Rattle.cedar_typing.proofs.Examples.Rules.{types_as, fails_with, all_fail, is_typed, is_refused}

pub has_typing : HasTyping
has_typing = record {
  has_required = types_as refl;
  has_of_record = types_as refl;
  has_optional = types_as refl;
  has_known = types_as refl;
  has_undeclared = types_as refl;
  has_hidden = types_as refl;
  has_fails = all_fail refl;
  has_failed = fails_with refl;
  has_failed_false = fails_with refl;
}

pub get_typing : GetTyping
get_typing = record {
  get_required = types_as refl;
  get_known = types_as refl;
  get_unguarded = fails_with refl;
  get_undeclared = fails_with refl;
  get_hidden = types_as refl;
  get_fails = all_fail refl;
  get_failed = fails_with refl;
  get_failed_unguarded = fails_with refl;
  get_failed_undeclared = fails_with refl;
  get_failed_hidden = fails_with refl;
}

pub action_membership_typing : ActionMembershipTyping
action_membership_typing = record {
  in_itself = is_typed refl;
  in_ancestor = is_typed refl;
  two_steps_up = is_typed refl;
  in_descendant = is_typed refl;
  in_one = is_typed refl;
  in_none = is_typed refl;
  in_user = is_typed refl;
  in_users = is_typed refl;
  in_mixed = is_refused refl;
  in_mixed_permissive = is_typed refl;
  in_no_entity = is_refused refl;
  in_no_entity_permissive = is_typed refl;
  in_undeclared = is_refused refl;
  in_undeclared_permissive = is_refused refl;
  in_undeclared_partial = is_typed refl;
  in_one_undeclared = is_typed refl;
  undeclared_in = is_typed refl;
  undeclared_action = is_refused refl;
  hidden_action = is_typed refl;
}

pub membership_typing : MembershipTyping
membership_typing = record {
  allowed = is_typed refl;
  allowed_in_set = is_typed refl;
  allowed_literals = is_typed refl;
  denied = is_typed refl;
  denied_in_set = is_typed refl;
  denied_action = is_typed refl;
  some_action_in = is_typed refl;
  in_other_namespace = is_typed refl;
  of_other_namespace = is_typed refl;
  of_any = is_typed refl;
  in_any = is_typed refl;
  of_two = is_typed refl;
  in_nothing = is_typed refl;
  of_never = is_typed refl;
  left_failed = is_refused refl;
  right_failed = is_refused refl;
  left_missing = is_refused refl;
  right_missing = is_refused refl;
  no_entities = is_refused refl;
}

pub has_tag_typing : HasTagTyping
has_tag_typing = record {
  has_tag_open = types_as refl;
  has_tag_known = types_as refl;
  has_tag_never = types_as refl;
  has_tag_of_any = types_as refl;
  has_tag_of_none = types_as refl;
  name_refused = is_refused refl;
  has_tag_failed = is_refused refl;
  name_failed = is_refused refl;
  has_tag_refused = is_refused refl;
  has_tag_missing = is_refused refl;
  has_tag_of_never = is_refused refl;
}

pub get_tag_typing : GetTagTyping
get_tag_typing = record {
  get_tag_known = types_as refl;
  get_tag_guarded = types_as refl;
  get_tag_of_two = types_as refl;
  get_tag_unguarded = is_refused refl;
  get_tag_of_any = is_refused refl;
  get_tag_of_other = is_refused refl;
  no_tags_unguarded = is_refused refl;
  no_tags = is_refused refl;
  no_tags_of_any = is_refused refl;
  no_bound = is_refused refl;
  get_tag_failed = is_refused refl;
  get_tag_failed_known = is_refused refl;
  get_tag_refused = is_refused refl;
  get_tag_missing = is_refused refl;
  get_tag_of_never = is_refused refl;
}

pub chain_typing : ChainTyping
chain_typing = record {
  of_record = types_as refl;
  each_step = types_as refl;
  guards = types_as refl;
  second_known = types_as refl;
  first_known = types_as refl;
  all_known = types_as refl;
  of_records = is_typed refl;
  first_required = types_as refl;
  last_false = is_typed refl;
  first_false = is_typed refl;
  of_long = is_refused refl;
  first_access = is_refused refl;
  later_access = is_refused refl;
  last_possible = is_typed refl;
  access_of_never = is_refused refl;
  of_never = is_refused refl;
  base_refused = is_refused refl;
  base_missing = is_refused refl;
  base_failed = is_refused refl;
  base_failed_false = is_refused refl;
  both_refused = is_refused refl;
}
