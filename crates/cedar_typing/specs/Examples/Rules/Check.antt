-- Computed examples of the check of a condition in one environment.
use Rattle.std.specs.Prelude.{ℕ, zero, suc, [], ◌∷◌, codes}
use Rattle.cedar_types.specs.declared.base.expressions.operators.UnaryOp.{UnaryOp}
use Rattle.cedar_types.specs.Expressions.Tree.{Shape, unknown, unary, has_attr}
use Rattle.cedar_typing.specs.Examples.Expressions.{false_lit, one, dot, has, has_vip, get_boss}
use Rattle.cedar_typing.specs.Examples.Rules.{ChecksAs, false_at, typed_false, typed_has_vip, typed_get_boss, not_a_bool, unguarded_vip}
use Rattle.cedar_typing.specs.Examples.Rules.{unguarded_boss, unknown_rank}
use Rattle.cedar_typing.specs.Examples.World.{named}
use Rattle.cedar_typing.specs.PolicyCheck.{succeeds, irrelevant, fails}

-- an expression behind n `!`
abbrev pub nots : ℕ → Shape → Shape
nots zero e = e
nots (suc n) e = unary tt UnaryOp.Not (nots n e)

pub record CheckTyping : Type 0 where
  -- `principal has vip`: a success with the typed condition
  pub succeeded : ChecksAs has_vip (succeeds (typed_has_vip 1 2))
  -- `false`: irrelevant, without an error
  pub never_true : ChecksAs false_lit (irrelevant [] (typed_false 1))
  -- `1`: a condition must be a Boolean
  pub refused : ChecksAs one (fails (not_a_bool 1 ∷ []))
  -- `unknown(u)`: a condition without a type adds no error
  pub untyped : ChecksAs (unknown tt (named (codes "u"))) (fails [])
  -- `principal.boss.age`: the access to the boss is not guarded, and an age is no Boolean
  pub failed_base_long : ChecksAs (dot get_boss (codes "age"))
      (fails (unguarded_boss 2 ∷ not_a_bool 1 ∷ []))
  -- `principal.boss.vip`: neither access is guarded
  pub failed_base_bool : ChecksAs (dot get_boss (codes "vip"))
      (fails (unguarded_boss 2 ∷ unguarded_vip 1 ∷ []))
  -- `principal.boss has vip`: the access to the boss is not guarded
  pub failed_base_of_has : ChecksAs (has get_boss (codes "vip")) (fails (unguarded_boss 2 ∷ []))
  -- `principal.boss has rank`: the access to the boss is not guarded, and the condition is never
  -- true
  pub refused_and_never_true : ChecksAs (has get_boss (codes "rank"))
      (irrelevant (unguarded_boss 2 ∷ [])
      (has_attr (false_at 1) (typed_get_boss 2 3) (codes "rank")))
  -- `principal.boss.rank`: the access to the boss is not guarded, and no user has a rank
  pub failed_base_untyped : ChecksAs (dot get_boss (codes "rank"))
      (fails (unguarded_boss 2 ∷ unknown_rank 1 ∷ []))
  -- `false` behind 400 `!`: it has the depth 401
  pub cut : ChecksAs (nots 400 false_lit) (fails [])
