-- Computed examples of the rule of `in`.
use Rattle.std.specs.Prelude.{[], ◌∷◌, Some}
use Rattle.cedar_types.specs.declared.base.errors.type_errors.LubContext.TheVariants.{Set}
use Rattle.cedar_types.specs.declared.base.names.slots.SlotId.{SlotId}
use Rattle.cedar_types.specs.declared.base.types.BoolType.TheVariants.{True, False}
use Rattle.cedar_types.specs.declared.base.types.ValidationMode.TheVariants.{Permissive, Partial}
use Rattle.cedar_types.specs.Types.{TBool, TLong, TSet, TAnyEntity}
use Rattle.cedar_types.specs.Expressions.Tree.{Shape, slot, if_then_else}
use Rattle.cedar_types.specs.Errors.{incompatible_types, unexpected_type, empty_set_forbidden}
use Rattle.cedar_typing.specs.Examples.Expressions.{one, the, principal, is_in, set0, set1, set2, has_vip, get_boss, get_rank}
use Rattle.cedar_typing.specs.Examples.Rules.{IsTyped, IsTypedIn, IsRefused, IsRefusedIn, bool_type, error_at, unguarded_boss, unknown_rank}
use Rattle.cedar_typing.specs.Examples.Rules.Equality.{action, friend}
use Rattle.cedar_typing.specs.Examples.Rules.Numbers.{user_or_action, nope}
use Rattle.cedar_typing.specs.Examples.World.{sample, unknown_action, hidden, a_user, an_action, alice, bob, greet, meet, act, wave}
use Rattle.cedar_typing.specs.TypeTests.{ancestor_types}

-- `if principal has vip then action else action`, an action that does not stand as it is
abbrev pub some_action : Shape
some_action = if_then_else tt has_vip action action

-- an action in entities that all stand as they are
pub record ActionMembershipTyping : Type 0 where
  -- `action in action`, and in `Action::"meet"` and `Social::Action::"act"`, which are above it:
  -- True. The other way round: False
  pub in_itself : IsTyped (is_in action action) (TBool True)
  pub in_ancestor : IsTyped (is_in action (the meet)) (TBool True)
  pub two_steps_up : IsTyped (is_in action (the act)) (TBool True)
  pub in_descendant : IsTyped (is_in (the meet) action) (TBool False)
  -- the action is one of a set, or is in one of it; or it is in none of a set
  pub in_one : IsTyped (is_in action (set2 (the greet) (the meet))) (TBool True)
  pub in_none : IsTyped (is_in (the meet) (set2 (the greet) action)) (TBool False)
  -- `action in User::"alice"`, `action in [User::"alice"]`: entities of no action type do not count
  pub in_user : IsTyped (is_in action (the alice)) (TBool False)
  pub in_users : IsTyped (is_in action (set1 (the alice))) (TBool False)
  -- `action in [User::"alice", Action::"meet"]`: the elements have no bound in Strict, an error at
  -- the set, and the type is still Bool. In Permissive it is True
  pub in_mixed : IsRefused (is_in action (set2 (the alice) (the meet))) (Some bool_type)
      (error_at 3 (incompatible_types (an_action ∷ a_user ∷ []) Set) ∷ [])
  pub in_mixed_permissive : IsTypedIn (sample Permissive)
      (is_in action (set2 (the alice) (the meet))) (TBool True)
  -- `action in []`: the empty set is an error in Strict, and the type is still Bool. In Permissive
  -- it is False
  pub in_no_entity : IsRefused (is_in action set0) (Some bool_type)
      (error_at 3 empty_set_forbidden ∷ [])
  pub in_no_entity_permissive : IsTypedIn (sample Permissive) (is_in action set0) (TBool False)
  -- `action in Action::"wave"`, which is not declared: it fails, without an error. In Partial it is
  -- Bool
  pub in_undeclared : IsRefused (is_in action (the wave)) (Some bool_type) []
  pub in_undeclared_permissive : IsRefusedIn (sample Permissive) (is_in action (the wave))
      (Some bool_type) []
  pub in_undeclared_partial : IsTypedIn (sample Partial) (is_in action (the wave)) bool_type
  -- `action in [Action::"greet", Action::"wave"]` in Partial: one undeclared action is enough for
  -- Bool
  pub in_one_undeclared : IsTypedIn (sample Partial) (is_in action (set2 (the greet) (the wave)))
      bool_type
  -- `Action::"wave" in action` in Partial: an undeclared action descends from no action
  pub undeclared_in : IsTypedIn (sample Partial) (is_in (the wave) action) (TBool False)
  -- `action in Action::"greet"`, if `action` is not declared: it fails, without an error. In the
  -- environment of undeclared actions it is Bool
  pub undeclared_action : IsRefusedIn unknown_action (is_in action (the greet)) (Some bool_type) []
  pub hidden_action : IsTypedIn hidden (is_in action (the greet)) bool_type

-- any entity in others
pub record MembershipTyping : Type 0 where
  -- users may be in users: `principal in context.friend`, `principal in [context.friend]`,
  -- `User::"alice" in User::"bob"`: Bool
  pub allowed : IsTyped (is_in principal friend) bool_type
  pub allowed_in_set : IsTyped (is_in principal (set1 friend)) bool_type
  pub allowed_literals : IsTyped (is_in (the alice) (the bob)) bool_type
  -- users may not be in actions, nor actions in users: `principal in action`, `principal in
  -- [action]`, `action in principal`: False
  pub denied : IsTyped (is_in principal action) (TBool False)
  pub denied_in_set : IsTyped (is_in principal (set1 action)) (TBool False)
  pub denied_action : IsTyped (is_in action principal) (TBool False)
  -- an action that does not stand as it is, in `Action::"greet"`, and in an action of another
  -- namespace: Bool. The other way round it is False, because no action of that namespace is below
  -- one of this
  pub some_action_in : IsTyped (is_in some_action (the greet)) bool_type
  pub in_other_namespace : IsTyped (is_in some_action (the act)) bool_type
  pub of_other_namespace : IsTyped (is_in (the act) some_action) (TBool False)
  -- `?principal in action`, `action in ?principal`: Bool, because the slot may be any entity
  pub of_any : IsTyped (is_in (slot tt SlotId.Principal) action) bool_type
  pub in_any : IsTyped (is_in action (slot tt SlotId.Principal)) bool_type
  -- two types on the left, in Permissive: Bool if one of them may be in the right side
  pub of_two : IsTypedIn (sample Permissive) (is_in user_or_action principal) bool_type
  -- `principal in []` in Permissive, `principal.nope in action` in Partial: Bool, because a side is
  -- Never
  pub in_nothing : IsTypedIn (sample Permissive) (is_in principal set0) bool_type
  pub of_never : IsTypedIn hidden (is_in nope action) bool_type
  -- `principal.boss in action`, `action in principal.boss`: an operand has failed, so the type is
  -- Bool, though the types deny it
  pub left_failed : IsRefused (is_in get_boss action) (Some bool_type) (unguarded_boss 2 ∷ [])
  pub right_failed : IsRefused (is_in action get_boss) (Some bool_type) (unguarded_boss 3 ∷ [])
  -- `principal.rank in principal`, `principal in principal.rank`: an operand without a type adds no
  -- error
  pub left_missing : IsRefused (is_in get_rank principal) (Some bool_type) (unknown_rank 2 ∷ [])
  pub right_missing : IsRefused (is_in principal get_rank) (Some bool_type) (unknown_rank 3 ∷ [])
  -- `1 in [1]`: an error at each side, which names a set of any entity before any entity
  pub no_entities : IsRefused (is_in one (set1 one)) (Some bool_type)
      (
      error_at 2 (unexpected_type (TAnyEntity ∷ []) TLong)
      ∷ error_at 3 (unexpected_type ancestor_types (TSet TLong)) ∷ [])
