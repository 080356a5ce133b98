-- Conditions in which some node has no type, because they have an error or name what is unknown; and
-- nodes whose value is not of their type, because evaluation does not reach them, or because one premise
-- on the world does not hold.
use Rattle.std.specs.Prelude.{◌≡◌, Bool, true, false, codes}
use Rattle.cedar_types.specs.declared.base.expressions.operators.Var.{Var}
use Rattle.cedar_types.specs.declared.base.names.slots.SlotId.{SlotId}
use Rattle.cedar_types.specs.declared.base.types.BoolType.TheVariants.{AnyBool}
use Rattle.cedar_types.specs.declared.base.types.ValidationMode.TheVariants.{Strict}
use Rattle.cedar_types.specs.Expressions.Tree.{Shape, string, lit, var, slot, unknown, and, call, has_attr, tree, no_trees}
use Rattle.cedar_types.specs.Types.{TBool, TString}
use Rattle.cedar_typing.specs.Capabilities.{no_caps, union}
use Rattle.cedar_typing.specs.Evaluation.Conformance.{Fits, IsEnvironmentOf, KeepsTable}
use Rattle.cedar_node_types.specs.Reached.{IsFalseIn, Reaches}
use Rattle.cedar_typing.specs.Evaluation.World.{World}
use Rattle.cedar_typing.specs.Examples.Composition.{robot_greeting}
use Rattle.cedar_typing.specs.Examples.Expressions.{false_lit, one, the, has, less, decimal_one, mistyped, node, numbered}
use Rattle.cedar_typing.specs.Examples.Greeting.{greeting}
use Rattle.cedar_typing.specs.Examples.NeededPremises.{with_a_number}
use Rattle.cedar_typing.specs.Examples.Rules.{bool_at, true_at, user_at}
use Rattle.cedar_typing.specs.Examples.TypedCopies.{IsTypedAs, marked_resource, marked_alone, ranked, ranked_alone, robots, user_alone}
use Rattle.cedar_typing.specs.Examples.World.{named, decimal, group, wave, a_user, decimal_type, unknown_action, sample}
use Rattle.cedar_node_types.specs.NodeTypes.{HasTypes, ReachedFitTypes, OnTypedCondition}
use Rattle.cedar_typing.specs.PolicyCheck.{Verdict, PolicyChecks}
use Rattle.cedar_typing.specs.PolicyCheck.Outcome.{passes}
use Rattle.cedar_typing.specs.Setting.{Setting, table}
use Rattle.cedar_typing.specs.Silence.{HasNoUnknowns, KnowsTypes, KnowsActions, IsWellNamed}
use Rattle.cedar_typing.specs.TypedExpr.{Source, TypedTree, typed}

-- ---- nodes without a type

-- the check of e has a typed condition in which some node has no type, whether the condition passes or
-- not
pub record LacksTypes (s : Setting) (e : Source) (passing : Bool) : Type 0 where
  pub verdict : Verdict
  pub checks : PolicyChecks s e verdict
  pub outcome : passes verdict ≡ passing
  pub lacks : OnTypedCondition HasTypes verdict → ⊥

-- `(a < 1) && false`, which is False even if nothing is known of a
abbrev pub less_and_false : Shape → Source
less_and_false a = numbered (and tt (less a one) false_lit)

abbrev pub unknown_group : Source
unknown_group = less_and_false (the (record { entity_type = group; eid = codes "a" }))

abbrev pub unknown_wave : Source
unknown_wave = less_and_false (the wave)

abbrev pub unknown_x : Source
unknown_x = less_and_false (unknown tt (named (codes "x")))

abbrev pub the_action : Source
the_action = less_and_false (var tt Var.Action)

pub record ConditionsMayLackTypes : Type 0 where
  -- `(1 + true < 1) && false` does not pass, because a boolean is added
  pub of_error : LacksTypes (sample Strict) (less_and_false mistyped) false
  -- `(Group::"a" < 1) && false` and `(Action::"wave" < 1) && false` pass, and name what the schema does
  -- not have
  pub of_type : LacksTypes (sample Strict) unknown_group true
  pub type_unknowns : HasNoUnknowns unknown_group
  pub of_action : LacksTypes (sample Strict) unknown_wave true
  pub action_types : KnowsTypes (sample Strict).env.schema unknown_wave
  -- `(unknown("x") < 1) && false` passes, and has an unknown
  pub of_unknown : LacksTypes (sample Strict) unknown_x true
  pub unknown_types : KnowsTypes (sample Strict).env.schema unknown_x
  pub unknown_actions : KnowsActions (sample Strict).env.schema unknown_x
  -- `(action < 1) && false` passes in an environment whose action the schema does not declare
  pub of_environment : LacksTypes unknown_action the_action true
  pub environment_named : IsWellNamed unknown_action.env.schema the_action
  pub not_environment : IsEnvironmentOf unknown_action.env.schema unknown_action.env.request_env → ⊥

-- ---- a node that evaluation does not reach

-- `resource has vip && resource has vip`: the left side makes known that the resource has the mark, so
-- the right side has the type True. Bob has no mark, so evaluation does not reach the right side, which
-- evaluates to false
abbrev pub has_mark_twice : Shape
has_mark_twice = and tt (has (var tt Var.Resource) (codes "vip")) (has (var tt Var.Resource) (codes "vip"))

abbrev pub mark_left : TypedTree
mark_left = has_attr (bool_at 2) (var (user_at 3) Var.Resource) (codes "vip")

abbrev pub mark_right : TypedTree
mark_right = has_attr (true_at 4) (var (user_at 5) Var.Resource) (codes "vip")

abbrev pub typed_mark_twice : TypedTree
typed_mark_twice = and (bool_at 1) mark_left mark_right

pub record UnreachedNeedNotFit : Type 0 where
  pub typed :
      IsTypedAs no_caps has_mark_twice (TBool AnyBool) (union marked_resource marked_resource)
      typed_mark_twice
  pub left_is_false : IsFalseIn greeting mark_left
  pub not_reached : Reaches greeting typed_mark_twice mark_right → ⊥
  pub misfits : ReachedFitTypes greeting mark_right → ⊥

-- ---- premises on the world

-- in the world the copy has a node that evaluation reaches and whose value is of another type
abbrev pub Misfits : World → TypedTree → Type 0
Misfits world x = ReachedFitTypes world x → ⊥

-- `?resource`, of the type to which it is linked, and `decimal("1.0")`
abbrev pub typed_slot : TypedTree
typed_slot = slot (user_at 1) SlotId.Resource

abbrev pub typed_decimal : TypedTree
typed_decimal =
    call (typed decimal_type (node 1)) decimal
    (tree (lit (typed TString (node 2)) (string (codes "1.0"))) no_trees)

-- the first three copies are those of the examples of typed copies: of `resource has vip || true`
-- though bob has no mark, of `principal has rank && false` though alice has a rank, and of
-- `principal is User || true` though the principal is a robot
pub record WorldMustFit : Type 0 where
  pub known : Misfits greeting marked_alone
  pub store : Misfits ranked ranked_alone
  pub request : Misfits robots user_alone
  -- the slot is linked to a user, and bound to a robot
  pub slot_typed : IsTypedAs no_caps (slot tt SlotId.Resource) a_user no_caps typed_slot
  pub slots : Misfits robot_greeting typed_slot
  pub slots_unfit : Fits (sample Strict).env.request_env robot_greeting.request robot_greeting.slots → ⊥
  -- the function gives a number
  pub call_typed : IsTypedAs no_caps decimal_one decimal_type no_caps typed_decimal
  pub functions : Misfits with_a_number typed_decimal
  pub table_not_kept : KeepsTable (table (sample Strict)) with_a_number.functions → ⊥

pub record NodeTypeExamples : Type 0 where
  pub untyped : ConditionsMayLackTypes
  pub unreached : UnreachedNeedNotFit
  pub worlds : WorldMustFit
