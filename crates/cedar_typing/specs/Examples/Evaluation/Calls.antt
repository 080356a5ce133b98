-- Computed outcomes of `like` and of calls of extension functions, and of two failures: the first
-- counts.
use Rattle.std.specs.Prelude.{pos, [], ◌∷◌, codes}
use Rattle.cedar_types.specs.declared.base.expressions.operators.UnaryOp.{UnaryOp}
use Rattle.cedar_types.specs.declared.base.expressions.operators.BinaryOp.{BinaryOp}
use Rattle.cedar_types.specs.declared.base.expressions.patterns.PatternElem.{PatternElem}
use Rattle.cedar_types.specs.Names.{Text}
use Rattle.cedar_types.specs.Expressions.Tree.{unary, binary}
use Rattle.cedar_typing.specs.Evaluation.World.{TypeFailure, MissingEntity, Overflow, ExtensionFailure}
use Rattle.cedar_typing.specs.Examples.Evaluation.{Yields, YieldsTrue, YieldsFalse, FailsAs}
use Rattle.cedar_typing.specs.Examples.Expressions.{one, two, three, text, set3, call0, call1, call2, call3, to_decimal, decimal_one}
use Rattle.cedar_typing.specs.Examples.Expressions.{decimal_two, matching, missing, mistyped, too_great}
use Rattle.cedar_typing.specs.Examples.Greeting.{number, a_decimal}
use Rattle.cedar_typing.specs.Examples.World.{named, decimal, social_decimal, less_than, sum}

-- the characters `a`, `b` and `é`, the wildcard, and the text of `é`, which has two bytes
abbrev pub char_a : PatternElem
char_a = PatternElem.Char 97

abbrev pub char_b : PatternElem
char_b = PatternElem.Char 98

abbrev pub char_e : PatternElem
char_e = PatternElem.Char 233

abbrev pub any : PatternElem
any = PatternElem.Wildcard

abbrev pub e_acute : Text
e_acute = 195 ∷ 169 ∷ []

pub record PatternExamples : Type 0 where
  -- `"ab" like "ab"`, `"ab" like "a"`, `"a" like "ab"`: the whole text must match
  pub like_text : YieldsTrue (matching (text (codes "ab")) (char_a ∷ char_b ∷ []))
  pub like_part : YieldsFalse (matching (text (codes "ab")) (char_a ∷ []))
  pub like_more : YieldsFalse (matching (text (codes "a")) (char_a ∷ char_b ∷ []))
  -- `"" like ""`
  pub like_empty : YieldsTrue (matching (text []) [])
  -- `"axyz" like "a*"`: a wildcard stands for a run of characters
  pub like_run : YieldsTrue (matching (text (codes "axyz")) (char_a ∷ any ∷ []))
  -- `"a" like "a*"`, `"" like "*"`: a wildcard may stand for none
  pub like_none : YieldsTrue (matching (text (codes "a")) (char_a ∷ any ∷ []))
  pub like_none_at_all : YieldsTrue (matching (text []) (any ∷ []))
  -- `"aab" like "*ab"`: the run that fits counts, not the first
  pub like_later : YieldsTrue (matching (text (codes "aab")) (any ∷ char_a ∷ char_b ∷ []))
  -- `"xaybz" like "*a*b*"`, `"xbyaz" like "*a*b*"`
  pub like_wildcards : YieldsTrue
      (matching (text (codes "xaybz")) (any ∷ char_a ∷ any ∷ char_b ∷ any ∷ []))
  pub like_wildcards_not : YieldsFalse
      (matching (text (codes "xbyaz")) (any ∷ char_a ∷ any ∷ char_b ∷ any ∷ []))
  -- `"xa" like "a*"`
  pub like_not : YieldsFalse (matching (text (codes "xa")) (char_a ∷ any ∷ []))
  -- `"é" like "é"`, `"aéb" like "a*b"`, `"é" like "a"`: a character of two bytes matches itself
  -- alone
  pub like_bytes : YieldsTrue (matching (text e_acute) (char_e ∷ []))
  pub like_bytes_run : YieldsTrue
      (matching (text (97 ∷ 195 ∷ 169 ∷ 98 ∷ [])) (char_a ∷ any ∷ char_b ∷ []))
  pub like_bytes_not : YieldsFalse (matching (text e_acute) (char_a ∷ []))
  -- `"é" like "*©"`: no run ends within a character, though `©` ends in the last byte of `é`
  pub like_bytes_within : YieldsFalse (matching (text e_acute) (any ∷ PatternElem.Char 169 ∷ []))
  -- `"😀" like "😀"`: a character of four bytes
  pub like_four_bytes : YieldsTrue
      (matching (text (240 ∷ 159 ∷ 152 ∷ 128 ∷ [])) (PatternElem.Char 128512 ∷ []))
  -- `"**" like "\**"`: a star that stands for itself, and a wildcard
  pub like_star : YieldsTrue (matching (text (codes "**")) (PatternElem.Char 42 ∷ any ∷ []))
  -- `1 like "*"`, `User::"gone".age like "*"`
  pub like_long : FailsAs (matching one (any ∷ [])) TypeFailure
  pub like_fails : FailsAs (matching missing (any ∷ [])) MissingEntity

pub record CallExamples : Type 0 where
  -- `decimal("1.0")`: a value. Of two calls that are listed the first counts
  pub call_value : Yields (to_decimal (text (codes "1.0"))) (a_decimal (codes "1.0"))
  -- `decimal([2, 1, 1])`: arguments are compared by equality of values
  pub call_equal : Yields (to_decimal (set3 two one one)) (a_decimal (codes "1.2"))
  -- `decimal("x")`: no call with this argument is listed
  pub call_no_value : FailsAs (to_decimal (text (codes "x"))) ExtensionFailure
  -- `decimal(1)`, `decimal()`: the failure is not one of types
  pub call_long : FailsAs (to_decimal one) ExtensionFailure
  pub call_no_argument : FailsAs (call0 decimal) ExtensionFailure
  -- `decimal("1.0", "2.0")`: the number of arguments counts
  pub call_more : FailsAs (call2 decimal (text (codes "1.0")) (text (codes "2.0")))
      ExtensionFailure
  -- `ip("1.0")`, `Social::decimal("1.0")`: no call of this function is listed
  pub call_unknown : FailsAs (call1 (named (codes "ip")) (text (codes "1.0"))) ExtensionFailure
  pub call_other_path : FailsAs (call1 social_decimal (text (codes "1.0"))) ExtensionFailure
  -- `lessThan(decimal("1.0"), decimal("2.0"))`, and the other way round: the order of arguments
  -- counts
  pub call_two : YieldsTrue (call2 less_than decimal_one decimal_two)
  pub call_two_back : FailsAs (call2 less_than decimal_two decimal_one) ExtensionFailure
  -- `sum(1, 2)`, `sum(1)`, `sum(1, 2, 3)`: only the call with two arguments is listed
  pub call_sum : Yields (call2 sum one two) (number (pos 3))
  pub call_sum_one : FailsAs (call1 sum one) ExtensionFailure
  pub call_sum_three : FailsAs (call3 sum one two three) ExtensionFailure
  -- `decimal(User::"gone".age)`, `sum(1, User::"gone".age)`: the failure of an argument is that of
  -- the call
  pub call_fails : FailsAs (to_decimal missing) MissingEntity
  pub call_later_fails : FailsAs (call2 sum one missing) MissingEntity
  -- `ip(1 + true, User::"gone".age)`: the first argument's failure counts, before the function is
  -- looked up
  pub call_first_failure : FailsAs (call2 (named (codes "ip")) mistyped missing) TypeFailure

pub record OrderExamples : Type 0 where
  -- `"a" + User::"gone".age`, `User::"gone".age + "a"`
  pub add_right_missing : FailsAs (binary tt BinaryOp.Add (text (codes "a")) missing) MissingEntity
  pub add_left_missing : FailsAs (binary tt BinaryOp.Add missing (text (codes "a"))) MissingEntity
  -- `(9223372036854775807 + 1) + User::"gone".age`, and the other way round: the left failure
  -- counts
  pub add_overflow_missing : FailsAs (binary tt BinaryOp.Add too_great missing) Overflow
  pub add_missing_overflow : FailsAs (binary tt BinaryOp.Add missing too_great) MissingEntity
  -- `"a" - User::"gone".age`, `"a" * User::"gone".age`
  pub subtract_missing : FailsAs (binary tt BinaryOp.Sub (text (codes "a")) missing) MissingEntity
  pub multiply_missing : FailsAs (binary tt BinaryOp.Mul (text (codes "a")) missing) MissingEntity
  -- `"a" < User::"gone".age`, `"a" <= User::"gone".age`
  pub less_missing : FailsAs (binary tt BinaryOp.Less (text (codes "a")) missing) MissingEntity
  pub at_most_missing : FailsAs (binary tt BinaryOp.LessEq (text (codes "a")) missing) MissingEntity
  -- `1 in User::"gone".age`
  pub in_missing : FailsAs (binary tt BinaryOp.In one missing) MissingEntity
  -- `1.contains(User::"gone".age)`, and `containsAll` and `containsAny` alike
  pub contains_missing : FailsAs (binary tt BinaryOp.Contains one missing) MissingEntity
  pub contains_all_missing : FailsAs (binary tt BinaryOp.ContainsAll one missing) MissingEntity
  pub contains_any_missing : FailsAs (binary tt BinaryOp.ContainsAny one missing) MissingEntity
  -- `1.hasTag(User::"gone".age)`, `1.getTag(User::"gone".age)`
  pub has_tag_missing : FailsAs (binary tt BinaryOp.HasTag one missing) MissingEntity
  pub get_tag_missing : FailsAs (binary tt BinaryOp.GetTag one missing) MissingEntity
  -- `-(User::"gone".age)`, `User::"gone".age.isEmpty()`: the failure of the operand is that of the
  -- whole
  pub negate_missing : FailsAs (unary tt UnaryOp.Neg missing) MissingEntity
  pub is_empty_missing : FailsAs (unary tt UnaryOp.IsEmpty missing) MissingEntity
