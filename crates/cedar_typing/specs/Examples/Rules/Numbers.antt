-- Computed examples of the rules of negation, `isEmpty`, `like`, `is`, `+`, `-`, `*`, `<` and `<=`.
use Rattle.std.specs.Prelude.{ℕ, List, [], ◌∷◌, Some, codes}
use Rattle.cedar_types.specs.declared.base.expressions.operators.BinaryOp.{BinaryOp}
use Rattle.cedar_types.specs.declared.base.expressions.operators.UnaryOp.{UnaryOp}
use Rattle.cedar_types.specs.declared.base.expressions.operators.Var.{Var}
use Rattle.cedar_types.specs.declared.base.expressions.patterns.PatternElem.{PatternElem}
use Rattle.cedar_types.specs.declared.base.types.BoolType.TheVariants.{True, False}
use Rattle.cedar_types.specs.declared.base.types.ValidationMode.TheVariants.{Strict, Permissive}
use Rattle.cedar_types.specs.Types.{Ty, TBool, TLong, TString, TAnySet, TAnyEntity, TExtension}
use Rattle.cedar_types.specs.Expressions.Tree.{Shape, var, slot, if_then_else, unary, binary}
use Rattle.cedar_types.specs.declared.base.names.slots.SlotId.{SlotId}
use Rattle.cedar_types.specs.Errors.{Finding, unexpected_type, function_argument_validation}
use Rattle.cedar_typing.specs.Examples.Expressions.{true_lit, one, two, text, set1, principal, context, dot, is, matching, less, at_most}
use Rattle.cedar_typing.specs.Examples.Expressions.{plus, has_vip, get_rank, to_decimal, decimal_one, decimal_two, a_duration}
use Rattle.cedar_typing.specs.Examples.Rules.{IsTyped, IsTypedIn, IsRefused, IsRefusedIn, bool_type, error_at, not_a_long, unknown_rank}
use Rattle.cedar_typing.specs.Examples.World.{sample_env, sample, hidden, user, group, decimal, duration, ip_address, decimal_type}
use Rattle.cedar_typing.specs.Examples.World.{duration_type}
use Rattle.cedar_typing.specs.Setting.{Setting}

-- `if principal has vip then principal else action`, of two entity types in Permissive
abbrev pub user_or_action : Shape
user_or_action = if_then_else tt has_vip principal (var tt Var.Action)

-- `context.address`, of an extension type that is not compared; `principal.nope`, of Never in
-- Partial
abbrev pub address : Shape
address = dot context (codes "address")

abbrev pub address_type : Ty
address_type = TExtension ip_address

abbrev pub nope : Shape
nope = dot principal (codes "nope")

-- the sample setting with the compared extension types listed the other way round
abbrev pub listed_back : Setting
listed_back = record (sample Strict) {
  env = record (sample_env Strict) { overloaded_types = duration ∷ decimal ∷ [] };
}

-- the comparable types: Long, and then the extension types
abbrev pub compared_types : List Ty
compared_types = TLong ∷ decimal_type ∷ duration_type ∷ []

-- one of the comparable types is expected, and a type t is there
abbrev pub not_compared : ℕ → Ty → Finding
not_compared n t = error_at n (unexpected_type compared_types t)

-- a decimal is expected, and a type t is there
abbrev pub not_a_decimal : ℕ → Ty → Finding
not_a_decimal n t = error_at n (unexpected_type (decimal_type ∷ []) t)

pub record OperatorTyping : Type 0 where
  -- the negation of `1`; of `true`: the type is still Long; of `principal.rank`: no further error
  pub negation : IsTyped (unary tt UnaryOp.Neg one) TLong
  pub negation_refused : IsRefused (unary tt UnaryOp.Neg true_lit) (Some TLong)
      (not_a_long 2 (TBool True) ∷ [])
  pub negation_missing : IsRefused (unary tt UnaryOp.Neg get_rank) (Some TLong)
      (unknown_rank 2 ∷ [])
  -- `[1].isEmpty()`, `(1).isEmpty()`
  pub empty : IsTyped (unary tt UnaryOp.IsEmpty (set1 one)) bool_type
  pub empty_refused : IsRefused (unary tt UnaryOp.IsEmpty one) (Some bool_type)
      (error_at 2 (unexpected_type (TAnySet ∷ []) TLong) ∷ [])
  -- `"a" like "*"`, `1 like "*"`
  pub like_text : IsTyped (matching (text (codes "a")) (PatternElem.Wildcard ∷ [])) bool_type
  pub like_refused : IsRefused (matching one (PatternElem.Wildcard ∷ [])) (Some bool_type)
      (error_at 2 (unexpected_type (TString ∷ []) TLong) ∷ [])
  -- `principal is User`: True; `principal is Group`: False
  pub is_it : IsTyped (is principal user) (TBool True)
  pub is_another : IsTyped (is principal group) (TBool False)
  -- an operand of two types in Permissive: Bool for one of them, False for a third
  pub is_one_of_two : IsTypedIn (sample Permissive) (is user_or_action user) bool_type
  pub is_none_of_two : IsTypedIn (sample Permissive) (is user_or_action group) (TBool False)
  -- `?principal is User`, which may be any entity: Bool
  pub is_of_any : IsTyped (is (slot tt SlotId.Principal) user) bool_type
  -- `principal.nope is User`, on Never, in Partial: it fails, without an error
  pub is_of_never : IsRefusedIn hidden (is nope user) (Some bool_type) []
  -- `1 is User`; `principal.rank is User`
  pub is_refused : IsRefused (is one user) (Some bool_type)
      (error_at 2 (unexpected_type (TAnyEntity ∷ []) TLong) ∷ [])
  pub is_missing : IsRefused (is get_rank user) (Some bool_type) (unknown_rank 2 ∷ [])

pub record NumberTyping : Type 0 where
  -- `1 + 2`; `true + "a"`: an error at each side, and the type is still Long
  pub sum : IsTyped (plus one two) TLong
  pub sum_refused : IsRefused (plus true_lit (text (codes "a"))) (Some TLong)
      (not_a_long 2 (TBool True) ∷ not_a_long 3 TString ∷ [])
  pub difference : IsTyped (binary tt BinaryOp.Sub one two) TLong
  pub product : IsTyped (binary tt BinaryOp.Mul one two) TLong
  -- `1 < 2`, `1 <= 2`
  pub compared : IsTyped (less one two) bool_type
  pub compared_at_most : IsTyped (at_most one two) bool_type
  -- one side is a Long: an error at the other
  pub left_is_long : IsRefused (less one true_lit) (Some bool_type)
      (not_a_long 3 (TBool True) ∷ [])
  pub right_is_long : IsRefused (less true_lit one) (Some bool_type)
      (not_a_long 2 (TBool True) ∷ [])
  pub decimal_and_long : IsRefused (less decimal_one one) (Some bool_type)
      (not_a_long 2 decimal_type ∷ [])
  pub long_and_decimal : IsRefused (less one decimal_one) (Some bool_type)
      (not_a_long 3 decimal_type ∷ [])
  -- `decimal("1.0") < decimal("2.0")`, `decimal("1.0") <= decimal("2.0")`
  pub decimals : IsTyped (less decimal_one decimal_two) bool_type
  pub decimals_at_most : IsTyped (at_most decimal_one decimal_two) bool_type
  -- one side is a decimal: an error at the other, even if that is of another comparable type
  pub left_is_decimal : IsRefused (less decimal_one (text (codes "a"))) (Some bool_type)
      (not_a_decimal 4 TString ∷ [])
  pub right_is_decimal : IsRefused (less address decimal_one) (Some bool_type)
      (not_a_decimal 2 address_type ∷ [])
  pub decimal_and_duration : IsRefused (less decimal_one a_duration) (Some bool_type)
      (not_a_decimal 4 duration_type ∷ [])
  -- neither side is of a comparable type: an error at each, even if both are of one extension type
  pub neither_compared : IsRefused (less true_lit (text (codes "a"))) (Some bool_type)
      (not_compared 2 (TBool True) ∷ not_compared 3 TString ∷ [])
  pub addresses : IsRefused (less address address) (Some bool_type)
      (not_compared 2 address_type ∷ not_compared 4 address_type ∷ [])
  -- the expected types ascend, however they are listed
  pub in_order : IsRefusedIn listed_back (less address address) (Some bool_type)
      (not_compared 2 address_type ∷ not_compared 4 address_type ∷ [])
  -- `decimal("") < decimal("1.0")`: a side that failed, but has a type
  pub decimal_failed : IsRefused (less (to_decimal (text [])) decimal_one) (Some bool_type)
      (error_at 2 (function_argument_validation (codes "empty")) ∷ [])
  -- `principal.rank < "a"`: a side without a type adds no error
  pub side_missing : IsRefused (less get_rank (text (codes "a"))) (Some bool_type)
      (unknown_rank 2 ∷ [])
  -- beside Never, in Partial: a comparable type passes, another one is an error there, and two
  -- Nevers fail without one
  pub never_and_long : IsTypedIn hidden (less nope one) bool_type
  pub long_and_never : IsTypedIn hidden (less one nope) bool_type
  pub never_and_decimal : IsTypedIn hidden (less nope decimal_one) bool_type
  pub duration_and_never : IsTypedIn hidden (less a_duration nope) bool_type
  pub never_and_text : IsRefusedIn hidden (less nope (text (codes "a"))) (Some bool_type)
      (not_compared 4 TString ∷ [])
  pub text_and_never : IsRefusedIn hidden (less (text (codes "a")) nope) (Some bool_type)
      (not_compared 2 TString ∷ [])
  pub two_nevers : IsRefusedIn hidden (less nope nope) (Some bool_type) []
