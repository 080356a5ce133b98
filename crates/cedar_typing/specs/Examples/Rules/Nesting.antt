-- Computed examples at the limit of depth: parts that are too deep, and errors that were found before
-- or beside them.
use Rattle.std.specs.Prelude.{◌+◌, [], ◌∷◌, codes}
use Rattle.cedar_types.specs.declared.base.errors.type_errors.LubContext.TheVariants.{Set}
use Rattle.cedar_types.specs.declared.base.expressions.operators.UnaryOp.{UnaryOp}
use Rattle.cedar_types.specs.declared.base.types.BoolType.TheVariants.{AnyBool, True, False}
use Rattle.cedar_types.specs.declared.base.types.ValidationMode.TheVariants.{Strict}
use Rattle.cedar_types.specs.Types.{TBool, TLong, TString}
use Rattle.cedar_types.specs.Expressions.Tree.{Shape, if_then_else, and, or, unary, ext_has_attr}
use Rattle.cedar_types.specs.Capability.{attribute}
use Rattle.cedar_types.specs.Errors.{incompatible_types, undefined_function}
use Rattle.cedar_typing.specs.Capabilities.{Caps, no_caps, single, union}
use Rattle.cedar_typing.specs.Examples.Expressions.{true_lit, false_lit, one, text, principal, dot, has, has2, has_vip, get_boss, equal}
use Rattle.cedar_typing.specs.Examples.Expressions.{less, plus, is_in, has_tag, get_tag, set3, record2, call1, call2, call3, numbered}
use Rattle.cedar_typing.specs.Examples.Rules.{CutsAt, typed_false, bool_at, typed_principal, error_at, not_a_bool, not_a_long}
use Rattle.cedar_typing.specs.Examples.Rules.{unguarded_boss}
use Rattle.cedar_typing.specs.Examples.Rules.Calls.{find, wrong_number, refused_by_check, no_literal}
use Rattle.cedar_typing.specs.Examples.Rules.Chains.{has3}
use Rattle.cedar_typing.specs.Examples.World.{decimal, sum, sample}
use Rattle.cedar_typing.specs.Judgments.{max_nesting}
use Rattle.cedar_typing.specs.Rules.{Derives}
use Rattle.cedar_typing.specs.TypedExpr.{TypedTree}

-- `!(principal has vip)`, in which `principal` is too deep if the whole has the depth 399
abbrev pub deep : Shape
deep = unary tt UnaryOp.Not has_vip

-- `1 && principal has vip`, which is as deep, and has an error at its left side
abbrev pub refused_deep : Shape
refused_deep = and tt one has_vip

-- `principal has boss.boss.boss`, the capabilities that it produces, and its typed copy
abbrev pub bosses : Shape
bosses = has3 principal (codes "boss") (codes "boss") (codes "boss")

abbrev pub boss_of : Shape → Caps
boss_of e = single (attribute e (codes "boss"))

abbrev pub with_bosses : Caps
with_bosses =
    union (union (boss_of principal) (boss_of get_boss)) (boss_of (dot get_boss (codes "boss")))

abbrev pub typed_bosses : TypedTree
typed_bosses =
    ext_has_attr (bool_at 1) (typed_principal 2) (codes "boss") (codes "boss" ∷ codes "boss" ∷ [])

pub record NestingTyping : Type 0 where
  -- `false` is visited at depth 400, and no deeper
  pub at_the_limit : Derives (sample Strict) (numbered false_lit) no_caps max_nesting (TBool False)
      no_caps (typed_false 1)
  pub past_the_limit : CutsAt (max_nesting + 1) false_lit []
  -- `principal.boss has vip`, `principal.boss.vip`: the base is cut, and the whole adds no error
  pub base_of_has : CutsAt 399 (has get_boss (codes "vip")) []
  pub base_of_get : CutsAt 399 (dot get_boss (codes "vip")) []
  -- `(1 && principal has vip) has vip`, `(1 && principal has vip).vip`: an error that was found in the
  -- base counts
  pub base_of_has_counts : CutsAt 398 (has refused_deep (codes "vip")) (not_a_bool 3 ∷ [])
  pub base_of_get_counts : CutsAt 398 (dot refused_deep (codes "vip")) (not_a_bool 3 ∷ [])
  -- `principal has vip && 1`, `principal has vip || 1`: the left side is cut, and the right one, which
  -- would fail, is not visited
  pub left_of_and : CutsAt 399 (and tt has_vip one) []
  pub left_of_or : CutsAt 399 (or tt has_vip one) []
  -- `(1 && principal has vip) && 1`, `(1 && principal has vip) || 1`: an error that was found in the
  -- left side counts
  pub left_of_and_counts : CutsAt 398 (and tt refused_deep one) (not_a_bool 3 ∷ [])
  pub left_of_or_counts : CutsAt 398 (or tt refused_deep one) (not_a_bool 3 ∷ [])
  -- `1 && principal has vip`, `1 || principal has vip`: the right side is cut, and the error of the
  -- left one counts
  pub right_of_and : CutsAt 399 refused_deep (not_a_bool 2 ∷ [])
  pub right_of_or : CutsAt 399 (or tt one has_vip) (not_a_bool 2 ∷ [])
  -- `!(principal has vip)`: the operand is cut
  pub operand_of_not : CutsAt 399 deep []
  -- `if !(principal has vip) then principal.boss else principal.boss`: the test is cut, and no branch
  -- is visited
  pub test_of_if : CutsAt 398 (if_then_else tt deep get_boss get_boss) []
  -- `if true then !(principal has vip) else principal.boss`, `if false then principal.boss else
  -- !(principal has vip)`: the branch that counts is cut, and the other one is not visited
  pub branch_of_true : CutsAt 398 (if_then_else tt true_lit deep get_boss) []
  pub branch_of_false : CutsAt 398 (if_then_else tt false_lit get_boss deep) []
  -- `if principal has vip then !(principal has vip) else principal.boss`, and with the branches the
  -- other way round: one branch is cut, and the error of the other one counts
  pub then_of_if : CutsAt 398 (if_then_else tt has_vip deep get_boss) (unguarded_boss 7 ∷ [])
  pub else_of_if : CutsAt 398 (if_then_else tt has_vip get_boss deep) (unguarded_boss 4 ∷ [])
  -- `if principal has vip then !(principal has vip) else !(principal has vip)`: both branches are cut
  pub both_of_if : CutsAt 398 (if_then_else tt has_vip deep deep) []
  -- `!(principal has vip) < principal.boss`: the right side is not typed after a left side that is
  -- cut. The other way round the error of the left one counts
  pub left_of_less : CutsAt 398 (less deep get_boss) []
  pub right_of_less : CutsAt 398 (less get_boss deep) (unguarded_boss 2 ∷ [])
  pub left_of_sum : CutsAt 398 (plus deep true_lit) []
  -- `==` types both sides in any case
  pub left_of_equal : CutsAt 398 (equal deep get_boss) (unguarded_boss 5 ∷ [])
  pub right_of_equal : CutsAt 398 (equal get_boss deep) (unguarded_boss 2 ∷ [])
  pub both_of_equal : CutsAt 398 (equal deep deep) []
  -- `in` types both sides in any case
  pub left_of_in : CutsAt 398 (is_in deep get_boss) (unguarded_boss 5 ∷ [])
  pub right_of_in : CutsAt 398 (is_in get_boss deep) (unguarded_boss 2 ∷ [])
  pub both_of_in : CutsAt 398 (is_in deep deep) []
  -- `hasTag` and `getTag` do not type the name after an entity that is cut. If the name is cut, the
  -- error of the entity counts
  pub left_of_has_tag : CutsAt 398 (has_tag deep get_boss) []
  pub right_of_has_tag : CutsAt 398 (has_tag get_boss deep) (unguarded_boss 2 ∷ [])
  pub left_of_get_tag : CutsAt 398 (get_tag deep get_boss) []
  pub right_of_get_tag : CutsAt 398 (get_tag get_boss deep) (unguarded_boss 2 ∷ [])
  -- `principal.boss has vip.age`: the base is cut; `(1 && principal has vip) has vip.age`: an error
  -- that was found in it counts
  pub base_of_chain : CutsAt 399 (has2 get_boss (codes "vip") (codes "age")) []
  pub base_of_chain_counts : CutsAt 398 (has2 refused_deep (codes "vip") (codes "age"))
      (not_a_bool 3 ∷ [])
  -- `principal has boss.boss.boss` at depth 399: its steps are no deeper than the whole
  pub steps_are_no_deeper : Derives (sample Strict) (numbered bosses) no_caps 399 (TBool AnyBool)
      with_bosses typed_bosses
  -- `[principal.boss, !(principal has vip), principal.boss]`: all elements are typed in any case
  pub element_of_set : CutsAt 398 (set3 get_boss deep get_boss)
      (unguarded_boss 2 ∷ unguarded_boss 7 ∷ [])
  -- `[1, "a", !(principal has vip)]`: the elements before one that is cut must have a bound
  pub bound_before_cut : CutsAt 398 (set3 one (text (codes "a")) deep)
      (error_at 1 (incompatible_types (TLong ∷ TString ∷ []) Set) ∷ [])
  -- `{x: !(principal has vip), y: principal.boss}`: no value is typed after one that is cut
  pub value_of_record : CutsAt 398 (record2 (codes "x") deep (codes "y") get_boss) []
  pub later_value_of_record : CutsAt 398 (record2 (codes "x") get_boss (codes "y") deep)
      (unguarded_boss 2 ∷ [])
  -- `sum(1)` at depth 400: an argument is one deeper
  pub only_argument : CutsAt max_nesting (call1 sum one) []
  -- `sum(!(principal has vip), true)`: no argument is typed after one that is cut. The other way round
  -- the error of the earlier one counts
  pub argument_of_call : CutsAt 398 (call2 sum deep true_lit) []
  pub later_argument_of_call : CutsAt 398 (call2 sum true_lit deep)
      (not_a_long 2 (TBool True) ∷ [])
  -- `find(principal.boss, !(principal has vip), principal.boss)`, `decimal("", !(principal has vip))`:
  -- the errors of the call count too
  pub argument_of_unknown : CutsAt 398 (call3 find get_boss deep get_boss)
      (unguarded_boss 2 ∷ error_at 1 (undefined_function find) ∷ [])
  pub argument_of_refused : CutsAt 398 (call2 decimal (text []) deep)
      (wrong_number 1 2 ∷ refused_by_check ∷ no_literal ∷ [])
