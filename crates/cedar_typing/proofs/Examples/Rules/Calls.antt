-- The examples of calls of extension functions.
use Rattle.std.proofs.Common.{refl}
use Rattle.cedar_typing.specs.Examples.Rules.Calls.{CallTyping, ArgumentTyping}
use Rattle.cedar_typing.proofs.Examples.Rules.{types_as, fails_with, is_typed, is_refused}

pub call_typing : CallTyping
call_typing = record {
  checked = types_as refl;
  unchecked = is_typed refl;
  unknown_function = fails_with refl;
  other_path = is_refused refl;
  no_argument = is_refused refl;
  too_few = is_refused refl;
  too_many = is_refused refl;
  variadic_more = is_typed refl;
  variadic_as_many = is_typed refl;
  variadic_fewer = is_refused refl;
  variadic_of_two_more = is_typed refl;
  variadic_of_two = is_typed refl;
  variadic_of_two_fewer = is_refused refl;
  check_refuses = is_refused refl;
  check_refuses_permissive = is_refused refl;
  not_literal = is_refused refl;
  variable_not_literal = is_refused refl;
  not_literal_permissive = is_typed refl;
  not_literal_partial = is_typed refl;
  all_three = is_refused refl;
  any_argument = fails_with refl;
}

pub argument_typing : ArgumentTyping
argument_typing = record {
  argument_refused = fails_with refl;
  entity_refused = is_refused refl;
  both_refused = is_refused refl;
  further_refused = is_refused refl;
  all_further_refused = is_refused refl;
  argument_missing = is_refused refl;
  argument_failed = is_refused refl;
  call_failed = is_refused refl;
  of_never = is_typed refl;
  hands_on_nothing = is_typed refl;
  guarded = is_typed refl;
}
