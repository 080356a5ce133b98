-- Computed examples of the rule of `!`.
use Rattle.std.specs.Prelude.{[], ◌∷◌}
use Rattle.cedar_types.specs.declared.base.expressions.operators.UnaryOp.{UnaryOp}
use Rattle.cedar_types.specs.declared.base.types.BoolType.TheVariants.{AnyBool, True, False}
use Rattle.cedar_types.specs.Types.{TBool}
use Rattle.cedar_types.specs.Expressions.Tree.{and, unary}
use Rattle.cedar_typing.specs.Capabilities.{no_caps}
use Rattle.cedar_typing.specs.Examples.Expressions.{true_lit, false_lit, one, has_vip, get_vip, get_rank}
use Rattle.cedar_typing.specs.Examples.Rules.{TypesAs, FailsWith, bool_at, true_at, false_at, typed_true, typed_false, refused_one}
use Rattle.cedar_typing.specs.Examples.Rules.{typed_has_vip, typed_get_vip, untyped_get_rank, not_a_bool, unguarded_vip, unknown_rank}

pub record UnaryTyping : Type 0 where
  -- `!true`, `!false`: False, and True; `!(principal has vip)`: Bool. No capability is produced
  pub not_true : TypesAs (unary tt UnaryOp.Not true_lit) (TBool False) no_caps
      (unary (false_at 1) UnaryOp.Not (typed_true 2))
  pub not_false : TypesAs (unary tt UnaryOp.Not false_lit) (TBool True) no_caps
      (unary (true_at 1) UnaryOp.Not (typed_false 2))
  pub not_open : TypesAs (unary tt UnaryOp.Not has_vip) (TBool AnyBool) no_caps
      (unary (bool_at 1) UnaryOp.Not (typed_has_vip 2 3))
  -- `!1`: Bool, and an error at the operand
  pub not_refused : FailsWith (unary tt UnaryOp.Not one)
      (unary (bool_at 1) UnaryOp.Not (refused_one 2)) (not_a_bool 2 ∷ [])
  -- `!(principal.vip && false)`: True, though the operand failed
  pub not_failed : FailsWith (unary tt UnaryOp.Not (and tt get_vip false_lit))
      (unary (true_at 1) UnaryOp.Not (and (false_at 2) (typed_get_vip 3 4) (typed_false 5)))
      (unguarded_vip 3 ∷ [])
  -- `!(principal.rank)`: an operand without a type adds no error, and the whole is Bool
  pub not_missing : FailsWith (unary tt UnaryOp.Not get_rank)
      (unary (bool_at 1) UnaryOp.Not (untyped_get_rank 2 3)) (unknown_rank 2 ∷ [])
