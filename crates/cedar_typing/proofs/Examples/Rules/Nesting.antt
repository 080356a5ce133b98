-- The examples of the limit of depth, and of the check of a condition.
use Rattle.std.proofs.Common.{refl}
use Rattle.cedar_types.specs.declared.base.types.BoolType.TheVariants.{AnyBool, False}
use Rattle.cedar_types.specs.declared.base.types.ValidationMode.TheVariants.{Strict}
use Rattle.cedar_types.specs.Types.{TBool}
use Rattle.cedar_typing.specs.Capabilities.{no_caps}
use Rattle.cedar_typing.specs.Examples.Expressions.{false_lit, numbered}
use Rattle.cedar_typing.specs.Examples.Rules.{typed_false}
use Rattle.cedar_typing.specs.Examples.Rules.Check.{CheckTyping}
use Rattle.cedar_typing.specs.Examples.Rules.Nesting.{NestingTyping, bosses, with_bosses, typed_bosses}
use Rattle.cedar_typing.specs.Examples.World.{sample}
use Rattle.cedar_typing.specs.Judgments.{max_nesting}
use Rattle.cedar_typing.proofs.Examples.Rules.{has, cuts_at, checks_as}

pub nesting_typing : NestingTyping
nesting_typing = record {
  at_the_limit = has (sample Strict) (numbered false_lit) no_caps max_nesting (TBool False) no_caps (typed_false 1) refl refl;
  past_the_limit = cuts_at refl;
  base_of_has = cuts_at refl;
  base_of_get = cuts_at refl;
  base_of_has_counts = cuts_at refl;
  base_of_get_counts = cuts_at refl;
  left_of_and = cuts_at refl;
  left_of_or = cuts_at refl;
  left_of_and_counts = cuts_at refl;
  left_of_or_counts = cuts_at refl;
  right_of_and = cuts_at refl;
  right_of_or = cuts_at refl;
  operand_of_not = cuts_at refl;
  test_of_if = cuts_at refl;
  branch_of_true = cuts_at refl;
  branch_of_false = cuts_at refl;
  then_of_if = cuts_at refl;
  else_of_if = cuts_at refl;
  both_of_if = cuts_at refl;
  left_of_less = cuts_at refl;
  right_of_less = cuts_at refl;
  left_of_sum = cuts_at refl;
  left_of_equal = cuts_at refl;
  right_of_equal = cuts_at refl;
  both_of_equal = cuts_at refl;
  left_of_in = cuts_at refl;
  right_of_in = cuts_at refl;
  both_of_in = cuts_at refl;
  left_of_has_tag = cuts_at refl;
  right_of_has_tag = cuts_at refl;
  left_of_get_tag = cuts_at refl;
  right_of_get_tag = cuts_at refl;
  base_of_chain = cuts_at refl;
  base_of_chain_counts = cuts_at refl;
  steps_are_no_deeper = has (sample Strict) (numbered bosses) no_caps 399 (TBool AnyBool) with_bosses typed_bosses refl refl;
  element_of_set = cuts_at refl;
  bound_before_cut = cuts_at refl;
  value_of_record = cuts_at refl;
  later_value_of_record = cuts_at refl;
  only_argument = cuts_at refl;
  argument_of_call = cuts_at refl;
  later_argument_of_call = cuts_at refl;
  argument_of_unknown = cuts_at refl;
  argument_of_refused = cuts_at refl;
}

pub check_typing : CheckTyping
check_typing = record {
  succeeded = checks_as refl;
  never_true = checks_as refl;
  refused = checks_as refl;
  untyped = checks_as refl;
  failed_base_long = checks_as refl;
  failed_base_bool = checks_as refl;
  failed_base_of_has = checks_as refl;
  refused_and_never_true = checks_as refl;
  failed_base_untyped = checks_as refl;
  cut = checks_as refl;
}
