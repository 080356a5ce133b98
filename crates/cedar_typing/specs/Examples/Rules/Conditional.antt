-- Computed examples of the rule of `if`.
use Rattle.std.specs.Prelude.{[], ◌∷◌, codes}
use Rattle.cedar_types.specs.declared.base.errors.type_errors.LubContext.TheVariants.{Conditional}
use Rattle.cedar_types.specs.declared.base.types.BoolType.TheVariants.{AnyBool}
use Rattle.cedar_types.specs.Types.{TBool, TLong, TString}
use Rattle.cedar_types.specs.Expressions.Tree.{string, lit, if_then_else, or}
use Rattle.cedar_types.specs.Errors.{incompatible_types}
use Rattle.cedar_typing.specs.Capabilities.{no_caps, union, intersection}
use Rattle.cedar_typing.specs.Examples.Expressions.{true_lit, false_lit, one, text, has_vip, has_age, get_vip, get_rank, has_friend}
use Rattle.cedar_typing.specs.Examples.Expressions.{false_with_friend, node}
use Rattle.cedar_typing.specs.Examples.Rules.{TypesAs, FailsWith, HandsOnNeither, marked_principal, with_friend, bool_at, no_type_at}
use Rattle.cedar_typing.specs.Examples.Rules.{typed_true, typed_false, typed_one, refused_one, typed_has_vip, typed_get_vip}
use Rattle.cedar_typing.specs.Examples.Rules.{untyped_get_rank, typed_has_friend, typed_false_with_friend, error_at, not_a_bool}
use Rattle.cedar_typing.specs.Examples.Rules.{unguarded_vip, unknown_rank}
use Rattle.cedar_typing.specs.TypedExpr.{TypedTree, typed}

-- `"a"` at the place 5
abbrev pub typed_text : TypedTree
typed_text = lit (typed TString (node 5)) (string (codes "a"))

pub record ConditionalTyping : Type 0 where
  -- `if context has friend then principal has vip else principal.vip`: the first branch stands for
  -- both, and the whole produces the capabilities of the test and of that branch
  pub if_true : TypesAs (if_then_else tt has_friend has_vip get_vip) (TBool AnyBool)
      (union with_friend marked_principal)
      (if_then_else (bool_at 1) (typed_has_friend 2 3) (typed_has_vip 4 5) (typed_has_vip 4 5))
  -- `if false then principal.vip else principal has vip`: the other branch stands for both
  pub if_false : TypesAs (if_then_else tt false_lit get_vip has_vip) (TBool AnyBool)
      marked_principal
      (if_then_else (bool_at 1) (typed_false 2) (typed_has_vip 5 6) (typed_has_vip 5 6))
  -- `if (if context has friend then false else true) then 1 else principal has vip`: the whole does
  -- not produce the capabilities of a False test
  pub if_false_drops : TypesAs (if_then_else tt false_with_friend one has_vip) (TBool AnyBool)
      marked_principal
      (if_then_else (bool_at 1) (typed_false_with_friend 2 3 4 5) (typed_has_vip 8 9)
      (typed_has_vip 8 9))
  -- `if principal has vip then principal.vip else false`: the first branch may use the capabilities
  -- of the test, and Bool is the bound
  pub if_open : TypesAs (if_then_else tt has_vip get_vip false_lit) (TBool AnyBool)
      (intersection no_caps (union marked_principal no_caps))
      (if_then_else (bool_at 1) (typed_has_vip 2 3) (typed_get_vip 4 5) (typed_false 6))
  -- `if principal has vip then principal has age else principal has age || principal has vip`:
  -- capabilities of the test and one branch alone are not produced
  pub if_neither : HandsOnNeither (if_then_else tt has_vip has_age (or tt has_age has_vip))
  -- `if principal has vip then true else principal has vip`: capabilities that hold after either
  -- branch are produced
  pub if_known : TypesAs (if_then_else tt has_vip true_lit has_vip) (TBool AnyBool)
      (intersection marked_principal (union marked_principal no_caps))
      (if_then_else (bool_at 1) (typed_has_vip 2 3) (typed_true 4) (typed_has_vip 5 6))
  -- `if principal has vip then 1 else "a"`: the branches have no bound, which is an error at the
  -- whole, and no type
  pub if_unbound : FailsWith (if_then_else tt has_vip one (text (codes "a")))
      (if_then_else (no_type_at 1) (typed_has_vip 2 3) (typed_one 4) typed_text)
      (error_at 1 (incompatible_types (TLong ∷ TString ∷ []) Conditional) ∷ [])
  -- `if principal has vip then principal.rank else 1`: a branch without a type adds no error, and
  -- the whole has no type
  pub if_missing : FailsWith (if_then_else tt has_vip get_rank one)
      (if_then_else (no_type_at 1) (typed_has_vip 2 3) (untyped_get_rank 4 5) (typed_one 6))
      (unknown_rank 4 ∷ [])
  -- `if principal.rank then true else false`: a test without a type adds no error, and both
  -- branches count
  pub if_test_missing : FailsWith (if_then_else tt get_rank true_lit false_lit)
      (if_then_else (bool_at 1) (untyped_get_rank 2 3) (typed_true 4) (typed_false 5))
      (unknown_rank 2 ∷ [])
  -- `if principal has vip then true else principal.vip`: the whole keeps the bound with a failed
  -- branch that has a type
  pub if_failed_branch : FailsWith (if_then_else tt has_vip true_lit get_vip)
      (if_then_else (bool_at 1) (typed_has_vip 2 3) (typed_true 4) (typed_get_vip 5 6))
      (unguarded_vip 5 ∷ [])
  -- `if 1 then principal.vip else "a"`: the errors of the test, of the branches and of the whole,
  -- in this order
  pub if_refused : FailsWith (if_then_else tt one get_vip (text (codes "a")))
      (if_then_else (no_type_at 1) (refused_one 2) (typed_get_vip 3 4) typed_text)
      (
      not_a_bool 2 ∷ unguarded_vip 3
      ∷ error_at 1 (incompatible_types (TBool AnyBool ∷ TString ∷ []) Conditional) ∷ [])
  -- `if true then principal.vip else 1`, `if false then 1 else principal.vip`: a failed branch
  -- stands for both, with its type
  pub if_true_failed : FailsWith (if_then_else tt true_lit get_vip one)
      (if_then_else (bool_at 1) (typed_true 2) (typed_get_vip 3 4) (typed_get_vip 3 4))
      (unguarded_vip 3 ∷ [])
  pub if_false_failed : FailsWith (if_then_else tt false_lit one get_vip)
      (if_then_else (bool_at 1) (typed_false 2) (typed_get_vip 4 5) (typed_get_vip 4 5))
      (unguarded_vip 4 ∷ [])
