-- Computed examples of the rules of `&&` and `||`.
use Rattle.std.specs.Prelude.{ℕ, List, [], ◌∷◌}
use Rattle.cedar_types.specs.declared.base.types.BoolType.TheVariants.{AnyBool, True, False}
use Rattle.cedar_types.specs.Types.{TBool}
use Rattle.cedar_types.specs.Expressions.Tree.{Shape, and, or}
use Rattle.cedar_typing.specs.Capabilities.{no_caps, union, intersection}
use Rattle.cedar_typing.specs.Examples.Expressions.{true_lit, false_lit, one, has_vip, has_age, get_vip, get_rank, has_friend}
use Rattle.cedar_typing.specs.Examples.Expressions.{false_with_friend}
use Rattle.cedar_typing.specs.Examples.Rules.{TypesAs, FailsWith, Failing, AllFail, HandsOnNeither, marked_principal, aged_principal, with_friend, bool_at}
use Rattle.cedar_typing.specs.Examples.Rules.{true_at, false_at, typed_true, typed_false, refused_one, typed_has_vip, typed_has_age}
use Rattle.cedar_typing.specs.Examples.Rules.{typed_get_vip, untyped_get_rank, typed_has_friend, typed_false_with_friend, not_a_bool}
use Rattle.cedar_typing.specs.Examples.Rules.{unguarded_vip, unknown_rank}
use Rattle.cedar_typing.specs.TypedExpr.{TypedTree, Mark}

-- `&&` and `||` fail alike; `false` ends the first, and `true` the second
abbrev pub side_failures : (Shape → Shape → Shape) → (Mark → TypedTree → TypedTree → TypedTree)
    → Shape → (ℕ → TypedTree) → (ℕ → Mark) → List Failing
side_failures join copy ends ended ended_at =
    -- `1 && false`, `1 || true`: Bool, and an error at the left side
    (join one ends, (copy (bool_at 1) (refused_one 2) (ended 3), not_a_bool 2 ∷ []))
    -- `(principal.vip && false) && 1`, `(principal.vip || true) || 1`: a failed left side that is
    -- False, or True, ends the whole
    ∷ (
      join (join get_vip ends) one,
      (copy (ended_at 1) (typed_get_vip 3 4) (ended 5), unguarded_vip 3 ∷ []),
    )
    -- `principal.rank && false`, `principal has vip && principal.rank`; `principal.rank || true`,
    -- `principal has vip || principal.rank`: a side without a type adds no error, and the whole is
    -- Bool
    ∷ (
      join get_rank ends,
      (copy (bool_at 1) (untyped_get_rank 2 3) (ended 4), unknown_rank 2 ∷ []),
    )
    ∷ (
      join has_vip get_rank,
      (copy (bool_at 1) (typed_has_vip 2 3) (untyped_get_rank 4 5), unknown_rank 4 ∷ []),
    )
    ∷ []

pub record AndTyping : Type 0 where
  -- `false && 1`: the left side alone, at the place of the whole
  pub and_left : TypesAs (and tt false_lit one) (TBool False) no_caps (typed_false 1)
  -- `(if context has friend then false else true) && 1`: the capabilities of a False left side are
  -- not produced
  pub and_left_drops : TypesAs (and tt false_with_friend one) (TBool False) no_caps
      (typed_false_with_friend 1 3 4 5)
  -- `principal has vip && principal.vip`: the right side may use the capabilities of the left one
  pub and_guarded : TypesAs (and tt has_vip get_vip) (TBool AnyBool)
      (union marked_principal no_caps)
      (and (bool_at 1) (typed_has_vip 2 3) (typed_get_vip 4 5))
  -- `principal has vip && false`: no capability is produced
  pub and_right : TypesAs (and tt has_vip false_lit) (TBool False) no_caps
      (and (false_at 1) (typed_has_vip 2 3) (typed_false 4))
  -- `true && context has friend`, `context has friend && true`: True, with the capabilities of both
  -- sides
  pub and_true : TypesAs (and tt true_lit has_friend) (TBool True) (union no_caps with_friend)
      (and (true_at 1) (typed_true 2) (typed_has_friend 3 4))
  pub and_right_true : TypesAs (and tt has_friend true_lit) (TBool True)
      (union with_friend no_caps)
      (and (true_at 1) (typed_has_friend 2 3) (typed_true 4))
  -- `(principal has vip && principal has age) && principal.vip`, and the other way round within the
  -- parentheses: the capabilities of either side are produced, or the access would be an error
  pub and_hands_on_left : TypesAs (and tt (and tt has_vip has_age) get_vip) (TBool AnyBool)
      (union (union marked_principal aged_principal) no_caps)
      (and (bool_at 1) (and (bool_at 2) (typed_has_vip 3 4) (typed_has_age 5 6))
      (typed_get_vip 7 8))
  pub and_hands_on_right : TypesAs (and tt (and tt has_age has_vip) get_vip) (TBool AnyBool)
      (union (union aged_principal marked_principal) no_caps)
      (and (bool_at 1) (and (bool_at 2) (typed_has_age 3 4) (typed_has_vip 5 6))
      (typed_get_vip 7 8))
  pub and_fails : AllFail (side_failures (and tt) and false_lit typed_false false_at)

pub record OrTyping : Type 0 where
  -- `context has friend || 1`: the left side alone, at the place of the whole, with its
  -- capabilities
  pub or_left : TypesAs (or tt has_friend one) (TBool True) with_friend (typed_has_friend 1 3)
  -- `principal has vip || principal has vip`: only the capabilities of both sides are produced
  pub or_open : TypesAs (or tt has_vip has_vip) (TBool AnyBool)
      (intersection marked_principal marked_principal)
      (or (bool_at 1) (typed_has_vip 2 3) (typed_has_vip 4 5))
  -- `(principal has vip || principal has vip) && principal.vip`: the capability is produced, or the
  -- access would be an error
  pub or_hands_on : TypesAs (and tt (or tt has_vip has_vip) get_vip) (TBool AnyBool)
      (union (intersection marked_principal marked_principal) no_caps)
      (and (bool_at 1) (or (bool_at 2) (typed_has_vip 3 4) (typed_has_vip 5 6)) (typed_get_vip 7 8))
  -- `principal has vip || principal has age`: the capabilities of one side alone are not produced
  pub or_neither : HandsOnNeither (or tt has_vip has_age)
  -- `principal has vip || true`, `principal has vip || context has friend`: True, with the
  -- capabilities of the right side
  pub or_right_true : TypesAs (or tt has_vip true_lit) (TBool True) no_caps
      (or (true_at 1) (typed_has_vip 2 3) (typed_true 4))
  pub or_right_known : TypesAs (or tt has_vip has_friend) (TBool True) with_friend
      (or (true_at 1) (typed_has_vip 2 3) (typed_has_friend 4 5))
  -- `principal has vip || false`, `false || principal has vip`: the type and the capabilities of
  -- the side that is not False
  pub or_right_false : TypesAs (or tt has_vip false_lit) (TBool AnyBool) marked_principal
      (or (bool_at 1) (typed_has_vip 2 3) (typed_false 4))
  pub or_left_false : TypesAs (or tt false_lit has_vip) (TBool AnyBool) marked_principal
      (or (bool_at 1) (typed_false 2) (typed_has_vip 3 4))
  -- `(if context has friend then false else true) || false`, and the other way round: False, with
  -- only the capabilities of the left side
  pub or_both_false : TypesAs (or tt false_with_friend false_lit) (TBool False)
      (union with_friend no_caps)
      (or (false_at 1) (typed_false_with_friend 2 3 4 5) (typed_false 7))
  pub or_both_false_right : TypesAs (or tt false_lit false_with_friend) (TBool False) no_caps
      (or (false_at 1) (typed_false 2) (typed_false_with_friend 3 4 5 6))
  -- `principal has vip || principal.vip`: the right side may not use the capabilities of the left
  -- one
  pub or_unguarded : FailsWith (or tt has_vip get_vip)
      (or (bool_at 1) (typed_has_vip 2 3) (typed_get_vip 4 5)) (unguarded_vip 4 ∷ [])
  pub or_fails : AllFail (side_failures (or tt) or true_lit typed_true true_at)
