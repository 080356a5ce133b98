-- Computed examples of the rule of calls of extension functions.
use Rattle.std.specs.Prelude.{ℕ, [], ◌∷◌, Some, None, codes}
use Rattle.cedar_types.specs.declared.base.types.BoolType.TheVariants.{True}
use Rattle.cedar_types.specs.declared.base.types.ValidationMode.TheVariants.{Permissive, Partial}
use Rattle.cedar_types.specs.Names.{Path}
use Rattle.cedar_types.specs.Types.{TBool, TLong, TString}
use Rattle.cedar_types.specs.Expressions.Tree.{string, Shape, lit, if_then_else, call, no_trees, tree}
use Rattle.cedar_types.specs.Errors.{Finding, unexpected_type, undefined_function, wrong_number_arguments, function_argument_validation}
use Rattle.cedar_types.specs.Errors.{non_lit_ext_constructor}
use Rattle.cedar_typing.specs.Capabilities.{no_caps}
use Rattle.cedar_typing.specs.Examples.Expressions.{true_lit, one, two, three, text, the, principal, dot, has, has_vip, get_vip, get_boss}
use Rattle.cedar_typing.specs.Examples.Expressions.{get_rank, has_friend, call0, call1, call2, call3, to_decimal, decimal_one, decimal_two}
use Rattle.cedar_typing.specs.Examples.Expressions.{node}
use Rattle.cedar_typing.specs.Examples.Rules.{TypesAs, FailsWith, IsTyped, IsTypedIn, IsRefused, IsRefusedIn, bool_type, bool_at}
use Rattle.cedar_typing.specs.Examples.Rules.{no_type_at, typed_one, refused_one, typed_has_vip, typed_get_vip, typed_get_boss, error_at}
use Rattle.cedar_typing.specs.Examples.Rules.{not_a_long, unguarded_vip, unguarded_boss, unknown_rank}
use Rattle.cedar_typing.specs.Examples.Rules.Numbers.{nope}
use Rattle.cedar_typing.specs.Examples.World.{named, decimal, social_decimal, duration, less_than, sum, alice, a_user, decimal_type}
use Rattle.cedar_typing.specs.Examples.World.{duration_type, sample, hidden}
use Rattle.cedar_typing.specs.TypedExpr.{TypedTree, typed}

-- `find`, a name without a function
abbrev pub find : Path
find = named (codes "find")

-- `if principal has vip then "1.0" else "2.0"`, which is not a literal
abbrev pub some_text : Shape
some_text = if_then_else tt has_vip (text (codes "1.0")) (text (codes "2.0"))

-- the typed copy of `decimal("1.0")`, with its nodes at the places n and k
abbrev pub typed_decimal_one : ℕ → ℕ → TypedTree
typed_decimal_one n k =
    call (typed decimal_type (node n)) decimal
    (tree (lit (typed TString (node k)) (string (codes "1.0"))) no_trees)

-- the errors of calls, at the place 1
abbrev pub wrong_number : ℕ → ℕ → Finding
wrong_number n k = error_at 1 (wrong_number_arguments n k)

abbrev pub refused_by_check : Finding
refused_by_check = error_at 1 (function_argument_validation (codes "empty"))

abbrev pub no_literal : Finding
no_literal = error_at 1 non_lit_ext_constructor

pub record CallTyping : Type 0 where
  -- `decimal("1.0")`, with a check that passes; `lessThan(decimal("1.0"), decimal("2.0"))`, without
  -- a check, so that its arguments need not be literals
  pub checked : TypesAs decimal_one decimal_type no_caps (typed_decimal_one 1 2)
  pub unchecked : IsTyped (call2 less_than decimal_one decimal_two) bool_type
  -- `find(principal has vip, principal.vip)`: an unknown name, beside the errors of the arguments,
  -- which know nothing of one another; no type
  pub unknown_function : FailsWith (call2 find has_vip get_vip)
      (call (no_type_at 1) find
      (tree (typed_has_vip 2 3) (tree (typed_get_vip 4 5) no_trees)))
      (unguarded_vip 4 ∷ error_at 1 (undefined_function find) ∷ [])
  -- `Social::decimal("1.0")`: a name with another path is another name
  pub other_path : IsRefused (call1 social_decimal (text (codes "1.0"))) None
      (error_at 1 (undefined_function social_decimal) ∷ [])
  -- `decimal()`, `lessThan(decimal("1.0"))`, and `lessThan` of three: a function takes as many
  -- arguments as it has types
  pub no_argument : IsRefused (call0 decimal) (Some decimal_type) (wrong_number 1 0 ∷ [])
  pub too_few : IsRefused (call1 less_than decimal_one) (Some bool_type) (wrong_number 2 1 ∷ [])
  pub too_many : IsRefused (call3 less_than decimal_one decimal_one decimal_one) (Some bool_type)
      (wrong_number 2 3 ∷ [])
  -- `sum(1, 2, 3)`, `sum(1)`, `sum()`: a variadic function takes as many or more
  pub variadic_more : IsTyped (call3 sum one two three) TLong
  pub variadic_as_many : IsTyped (call1 sum one) TLong
  pub variadic_fewer : IsRefused (call0 sum) (Some TLong) (wrong_number 1 0 ∷ [])
  -- `duration(decimal("1.0"), 1, 2)`, and of two arguments; `duration(decimal("1.0"))`, of one too
  -- few
  pub variadic_of_two_more : IsTyped (call3 duration decimal_one one two) duration_type
  pub variadic_of_two : IsTyped (call2 duration decimal_one one) duration_type
  pub variadic_of_two_fewer : IsRefused (call1 duration decimal_one) (Some duration_type)
      (wrong_number 2 1 ∷ [])
  -- `decimal("")`: the check refuses, in Permissive too
  pub check_refuses : IsRefused (to_decimal (text [])) (Some decimal_type) (refused_by_check ∷ [])
  pub check_refuses_permissive : IsRefusedIn (sample Permissive) (to_decimal (text []))
      (Some decimal_type) (refused_by_check ∷ [])
  -- `decimal(if principal has vip then "1.0" else "2.0")`, `decimal(principal)`: the argument is
  -- not a literal, which is an error in Strict alone
  pub not_literal : IsRefused (to_decimal some_text) (Some decimal_type) (no_literal ∷ [])
  pub variable_not_literal : IsRefused (to_decimal principal) (Some decimal_type) (no_literal ∷ [])
  pub not_literal_permissive : IsTypedIn (sample Permissive) (to_decimal some_text) decimal_type
  pub not_literal_partial : IsTypedIn (sample Partial) (to_decimal some_text) decimal_type
  -- `decimal("", if principal has vip then "1.0" else "2.0")`: three errors together
  pub all_three : IsRefused (call2 decimal (text []) some_text) (Some decimal_type)
      (wrong_number 1 2 ∷ refused_by_check ∷ no_literal ∷ [])
  -- `decimal(1, principal.boss)`: beside errors of the call an argument may be of any type, and has
  -- its own errors
  pub any_argument : FailsWith (call2 decimal one get_boss)
      (call (typed decimal_type (node 1)) decimal
      (tree (typed_one 2) (tree (typed_get_boss 3 4) no_trees)))
      (unguarded_boss 3 ∷ wrong_number 1 2 ∷ no_literal ∷ [])

pub record ArgumentTyping : Type 0 where
  -- `lessThan(1, decimal("1.0"))`: an error at the argument, which loses its type; the call keeps
  -- its own
  pub argument_refused : FailsWith (call2 less_than one decimal_one)
      (call (bool_at 1) less_than (tree (refused_one 2) (tree (typed_decimal_one 3 4) no_trees)))
      (error_at 2 (unexpected_type (decimal_type ∷ []) TLong) ∷ [])
  -- `decimal(User::"alice")`: an entity is a literal too, but no text
  pub entity_refused : IsRefused (to_decimal (the alice)) (Some decimal_type)
      (error_at 2 (unexpected_type (TString ∷ []) a_user) ∷ [])
  -- `duration(1, decimal("1.0"))`: each argument must be of its own type
  pub both_refused : IsRefused (call2 duration one decimal_one) (Some duration_type)
      (error_at 2 (unexpected_type (decimal_type ∷ []) TLong) ∷ not_a_long 3 decimal_type ∷ [])
  -- `duration(decimal("1.0"), 1, decimal("1.0"))`, `sum(1, true, "a")`: arguments beyond the last
  -- type must be of the last type
  pub further_refused : IsRefused (call3 duration decimal_one one decimal_one) (Some duration_type)
      (not_a_long 5 decimal_type ∷ [])
  pub all_further_refused : IsRefused (call3 sum one true_lit (text (codes "a"))) (Some TLong)
      (not_a_long 3 (TBool True) ∷ not_a_long 4 TString ∷ [])
  -- `sum(principal.rank)`: an argument without a type adds no error
  pub argument_missing : IsRefused (call1 sum get_rank) (Some TLong) (unknown_rank 2 ∷ [])
  -- `sum(principal.boss.age)`, `lessThan(decimal("1.0"), decimal(principal.rank))`: an argument
  -- that failed, but has a type
  pub argument_failed : IsRefused (call1 sum (dot get_boss (codes "age"))) (Some TLong)
      (unguarded_boss 3 ∷ [])
  pub call_failed : IsRefused (call2 less_than decimal_one (to_decimal get_rank)) (Some bool_type)
      (unknown_rank 5 ∷ error_at 4 non_lit_ext_constructor ∷ [])
  -- `sum(principal.nope)`: an argument of type Never, in Partial, is of each type
  pub of_never : IsTypedIn hidden (call1 sum nope) TLong
  -- `sum(if context has friend then 1 else 2)`: a call does not produce the capabilities of its
  -- arguments
  pub hands_on_nothing : IsTyped (call1 sum (if_then_else tt has_friend one two)) TLong
  -- `if principal has boss then sum(principal.boss.age) else 1`: an argument may use the prior
  -- capabilities
  pub guarded : IsTyped
      (if_then_else tt (has principal (codes "boss")) (call1 sum (dot get_boss (codes "age"))) one)
      TLong
