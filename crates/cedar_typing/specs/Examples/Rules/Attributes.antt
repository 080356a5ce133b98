-- Computed examples of the rules of `has` and `.`.
use Rattle.std.specs.Prelude.{ℕ, List, [], ◌∷◌, codes}
use Rattle.cedar_types.specs.declared.base.expressions.operators.Var.{Var}
use Rattle.cedar_types.specs.declared.base.types.BoolType.TheVariants.{AnyBool, True, False}
use Rattle.cedar_types.specs.declared.base.types.ValidationMode.TheVariants.{Strict}
use Rattle.cedar_types.specs.Names.{Text}
use Rattle.cedar_types.specs.Types.{TNever, TBool, TLong, TAnyEntity}
use Rattle.cedar_types.specs.Expressions.Tree.{Shape, var, if_then_else, get_attr, has_attr}
use Rattle.cedar_typing.specs.Capabilities.{no_caps}
use Rattle.cedar_typing.specs.Examples.Expressions.{one, principal, dot, has, has_vip, has_age, get_vip, get_boss, get_rank, has_friend}
use Rattle.cedar_typing.specs.Examples.Expressions.{node}
use Rattle.cedar_typing.specs.Examples.Rules.{TypesAs, TypesAsIn, FailsWith, FailsWithIn, Failing, AllFail, marked_principal, aged_principal, with_friend}
use Rattle.cedar_typing.specs.Examples.Rules.{bool_at, true_at, false_at, long_at, no_type_at, refused_one, typed_principal, typed_has_vip}
use Rattle.cedar_typing.specs.Examples.Rules.{typed_has_age, typed_get_vip, typed_get_boss, untyped_get_rank, typed_has_friend, not_a_bool}
use Rattle.cedar_typing.specs.Examples.Rules.{not_an_object, unguarded_vip, unguarded_boss, unknown_rank}
use Rattle.cedar_typing.specs.Examples.World.{sample, hidden}
use Rattle.cedar_typing.specs.TypedExpr.{TypedTree, Mark, typed}

-- a node of the type any entity, at the place n
abbrev pub any_entity_at : ℕ → Mark
any_entity_at n = typed TAnyEntity (node n)

-- `principal` in the environment of undeclared actions, at the place n
abbrev pub hidden_principal : ℕ → TypedTree
hidden_principal n = var (any_entity_at n) Var.Principal

-- `if 1 then principal else principal`, which is of any entity in the environment of undeclared
-- actions, though the test has failed
abbrev pub refused_principal : Shape
refused_principal = if_then_else tt one principal principal

-- `a has vip` and `a.vip` on a base that has failed without a type, with the mark of the whole
abbrev pub base_failures : (Shape → Text → Shape) → (Mark → TypedTree → Text → TypedTree)
    → (ℕ → Mark) → List Failing
base_failures ask copy marked =
    -- `1 has vip`, `1.vip`: an error at the base, which names any record before any entity
    (
      ask one (codes "vip"),
      (copy (marked 1) (refused_one 2) (codes "vip"), not_an_object 2 ∷ []),
    )
    -- `principal.rank has vip`, `principal.rank.vip`: a base without a type adds no error
    ∷ (
      ask get_rank (codes "vip"),
      (copy (marked 1) (untyped_get_rank 2 3) (codes "vip"), unknown_rank 2 ∷ []),
    )
    ∷ []

pub record HasTyping : Type 0 where
  -- `principal has age`: Bool, because the base is an entity; `context has friend`: True, because
  -- it is a record. Both produce that the attribute is there
  pub has_required : TypesAs has_age (TBool AnyBool) aged_principal (typed_has_age 1 2)
  pub has_of_record : TypesAs has_friend (TBool True) with_friend (typed_has_friend 1 2)
  -- `principal has vip`: Bool, and True if it is known
  pub has_optional : TypesAs has_vip (TBool AnyBool) marked_principal (typed_has_vip 1 2)
  pub has_known : TypesAsIn (sample Strict) marked_principal has_vip (TBool True) marked_principal
      (has_attr (true_at 1) (typed_principal 2) (codes "vip"))
  -- `principal has rank`: False, and Bool of any entity. Neither produces a capability
  pub has_undeclared : TypesAs (has principal (codes "rank")) (TBool False) no_caps
      (has_attr (false_at 1) (typed_principal 2) (codes "rank"))
  pub has_hidden : TypesAsIn hidden no_caps (has principal (codes "rank")) (TBool AnyBool) no_caps
      (has_attr (bool_at 1) (hidden_principal 2) (codes "rank"))
  -- if the base fails without a type, the whole is Bool
  pub has_fails : AllFail (base_failures has has_attr bool_at)
  -- `principal.boss has vip`, `principal.boss has rank`: on a failed base with a type, the type of
  -- the rule, and no further error
  pub has_failed : FailsWith (has get_boss (codes "vip"))
      (has_attr (bool_at 1) (typed_get_boss 2 3) (codes "vip")) (unguarded_boss 2 ∷ [])
  pub has_failed_false : FailsWith (has get_boss (codes "rank"))
      (has_attr (false_at 1) (typed_get_boss 2 3) (codes "rank")) (unguarded_boss 2 ∷ [])

pub record GetTyping : Type 0 where
  -- `principal.age`, which is required; `principal.vip`, which is known to be there
  pub get_required : TypesAs (dot principal (codes "age")) TLong no_caps
      (get_attr (long_at 1) (typed_principal 2) (codes "age"))
  pub get_known : TypesAsIn (sample Strict) marked_principal get_vip (TBool AnyBool) no_caps
      (typed_get_vip 1 2)
  -- `principal.vip`, which is not known to be there: an error at the whole, which keeps its type
  pub get_unguarded : FailsWith get_vip (typed_get_vip 1 2) (unguarded_vip 1 ∷ [])
  -- `principal.rank`: an error at the whole, and no type. In Partial it is Never of any entity
  pub get_undeclared : FailsWith get_rank (untyped_get_rank 1 2) (unknown_rank 1 ∷ [])
  pub get_hidden : TypesAsIn hidden no_caps get_rank TNever no_caps
      (get_attr (typed TNever (node 1)) (hidden_principal 2) (codes "rank"))
  -- if the base fails without a type, the whole has no type
  pub get_fails : AllFail (base_failures dot get_attr no_type_at)
  -- `principal.boss.age`: on a failed base with a type, the type of the rule, and no further error
  pub get_failed : FailsWith (dot get_boss (codes "age"))
      (get_attr (long_at 1) (typed_get_boss 2 3) (codes "age")) (unguarded_boss 2 ∷ [])
  -- `principal.boss.vip`, `principal.boss.rank`: the errors of the base and of the whole
  pub get_failed_unguarded : FailsWith (dot get_boss (codes "vip"))
      (get_attr (bool_at 1) (typed_get_boss 2 3) (codes "vip"))
      (unguarded_boss 2 ∷ unguarded_vip 1 ∷ [])
  pub get_failed_undeclared : FailsWith (dot get_boss (codes "rank"))
      (get_attr (no_type_at 1) (typed_get_boss 2 3) (codes "rank"))
      (unguarded_boss 2 ∷ unknown_rank 1 ∷ [])
  -- `(if 1 then principal else principal).rank` in Partial: the failed base is of any entity, so
  -- the whole is Never, without a further error
  pub get_failed_hidden : FailsWithIn hidden (dot refused_principal (codes "rank"))
      (get_attr (typed TNever (node 1))
      (if_then_else (any_entity_at 2) (refused_one 3) (hidden_principal 4) (hidden_principal 5))
      (codes "rank"))
      (not_a_bool 3 ∷ [])
