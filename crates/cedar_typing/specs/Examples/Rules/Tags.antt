-- Computed examples of the rules of `hasTag` and `getTag`.
use Rattle.std.specs.Prelude.{ℕ, [], ◌∷◌, Some, None, codes}
use Rattle.cedar_types.specs.declared.base.errors.type_errors.LubContext.TheVariants.{GetTag}
use Rattle.cedar_types.specs.declared.base.expressions.operators.BinaryOp.{BinaryOp}
use Rattle.cedar_types.specs.declared.base.expressions.operators.Var.{Var}
use Rattle.cedar_types.specs.declared.base.names.slots.SlotId.{SlotId}
use Rattle.cedar_types.specs.declared.base.types.BoolType.TheVariants.{True, False}
use Rattle.cedar_types.specs.declared.base.types.ValidationMode.TheVariants.{Strict, Permissive}
use Rattle.cedar_types.specs.Types.{Ty, TBool, TLong, TString, TEntity, TAnyEntity}
use Rattle.cedar_types.specs.Expressions.Tree.{string, Shape, lit, var, slot, if_then_else, and, binary}
use Rattle.cedar_types.specs.Capability.{tag}
use Rattle.cedar_types.specs.Errors.{unexpected_type, incompatible_types, unsafe_tag_access, no_tags_allowed, internal_invariant_violation}
use Rattle.cedar_typing.specs.Capabilities.{Caps, no_caps, single, union}
use Rattle.cedar_typing.specs.Examples.Expressions.{one, text, principal, equal, has_tag, get_tag, get_boss, get_rank, node}
use Rattle.cedar_typing.specs.Examples.Rules.{TypesAs, TypesAsIn, IsRefused, IsRefusedIn, IsRefusedKnowing, IsRefusedKnowingIn, bool_type}
use Rattle.cedar_typing.specs.Examples.Rules.{bool_at, true_at, false_at, typed_principal, typed_has_vip, error_at, unguarded_boss}
use Rattle.cedar_typing.specs.Examples.Rules.{unknown_rank}
use Rattle.cedar_typing.specs.Examples.Rules.Equality.{action}
use Rattle.cedar_typing.specs.Examples.Rules.Numbers.{user_or_action, nope}
use Rattle.cedar_typing.specs.Examples.World.{sample_schema, sample_env, sample, hidden, user, greet, an_action}
use Rattle.cedar_typing.specs.Setting.{Setting}
use Rattle.cedar_typing.specs.TypedExpr.{TypedTree, typed}

-- a schema without entity types
abbrev pub untagged : Setting
untagged = record (sample Strict) {
  env = record (sample_env Strict) { schema = record sample_schema { types = [] } };
}

-- `"role"`, and its typed copy
abbrev pub role : Shape
role = text (codes "role")

abbrev pub typed_role : ℕ → TypedTree
typed_role n = lit (typed TString (node n)) (string (codes "role"))

-- `action` at the place n; both types, of an action and of a user
abbrev pub typed_action : ℕ → TypedTree
typed_action n = var (typed an_action (node n)) Var.Action

abbrev pub two_types : Ty
two_types = TEntity (greet.entity_type ∷ user ∷ [])

-- `?principal`, which may be any entity
abbrev pub anyone : Shape
anyone = slot tt SlotId.Principal

abbrev pub typed_anyone : ℕ → TypedTree
typed_anyone n = slot (typed TAnyEntity (node n)) SlotId.Principal

-- the capability that an entity has the tag `role`
abbrev pub with_role : Shape → Caps
with_role e = single (tag e role)

pub record HasTagTyping : Type 0 where
  -- `principal.hasTag("role")`: Bool, and True if it is known. It produces that the tag is there
  pub has_tag_open : TypesAs (has_tag principal role) bool_type (with_role principal)
      (binary (bool_at 1) BinaryOp.HasTag (typed_principal 2) (typed_role 3))
  pub has_tag_known : TypesAsIn (sample Strict) (with_role principal) (has_tag principal role)
      (TBool True) (with_role principal)
      (binary (true_at 1) BinaryOp.HasTag (typed_principal 2) (typed_role 3))
  -- `action.hasTag("role")`, on a type that declares no tags: False. It produces that the tag is
  -- there too
  pub has_tag_never : TypesAs (has_tag action role) (TBool False) (with_role action)
      (binary (false_at 1) BinaryOp.HasTag (typed_action 2) (typed_role 3))
  -- `?principal.hasTag("role")`, on any entity: Bool if some type declares tags, else False
  pub has_tag_of_any : TypesAs (has_tag anyone role) bool_type (with_role anyone)
      (binary (bool_at 1) BinaryOp.HasTag (typed_anyone 2) (typed_role 3))
  pub has_tag_of_none : TypesAsIn untagged no_caps (has_tag anyone role) (TBool False)
      (with_role anyone) (binary (false_at 1) BinaryOp.HasTag (typed_anyone 2) (typed_role 3))
  -- `principal.hasTag(1)`: an error at the name, and the type is still Bool
  pub name_refused : IsRefused (has_tag principal one) (Some bool_type)
      (error_at 3 (unexpected_type (TString ∷ []) TLong) ∷ [])
  -- `principal.boss.hasTag("role")`, `action.hasTag(principal.rank)`: an operand has failed, and
  -- the whole keeps its type
  pub has_tag_failed : IsRefused (has_tag get_boss role) (Some bool_type) (unguarded_boss 2 ∷ [])
  pub name_failed : IsRefused (has_tag action get_rank) (Some (TBool False)) (unknown_rank 3 ∷ [])
  -- `(1).hasTag("role")`, `principal.rank.hasTag("role")`: if the left side has no type, neither
  -- has the whole, without a further error
  pub has_tag_refused : IsRefused (has_tag one role) None
      (error_at 2 (unexpected_type (TAnyEntity ∷ []) TLong) ∷ [])
  pub has_tag_missing : IsRefused (has_tag get_rank role) None (unknown_rank 2 ∷ [])
  -- `principal.nope.hasTag("role")`, on Never, in Partial: an error at the whole, and no type
  pub has_tag_of_never : IsRefusedIn hidden (has_tag nope role) None
      (error_at 1 internal_invariant_violation ∷ [])

pub record GetTagTyping : Type 0 where
  -- `principal.getTag("role")`, if the tag is known to be there
  pub get_tag_known : TypesAsIn (sample Strict) (with_role principal) (get_tag principal role)
      TString no_caps
      (binary (typed TString (node 1)) BinaryOp.GetTag (typed_principal 2) (typed_role 3))
  -- `principal.hasTag("role") && principal.getTag("role") == "role"`: the test makes the tag known
  pub get_tag_guarded : TypesAs
      (and tt (has_tag principal role) (equal (get_tag principal role) role))
      bool_type (union (with_role principal) no_caps)
      (and (bool_at 1)
      (binary (bool_at 2) BinaryOp.HasTag (typed_principal 3) (typed_role 4))
      (binary (bool_at 5) BinaryOp.Eq
      (binary (typed TString (node 6)) BinaryOp.GetTag (typed_principal 7) (typed_role 8))
      (typed_role 9)))
  -- two types in Permissive, if the tag is known to be there: the type that declares no tags does
  -- not count
  pub get_tag_of_two : TypesAsIn (sample Permissive) (with_role user_or_action)
      (get_tag user_or_action role) TString no_caps
      (binary (typed TString (node 1)) BinaryOp.GetTag
      (if_then_else (typed two_types (node 2)) (typed_has_vip 3 4) (typed_principal 5)
      (typed_action 6))
      (typed_role 7))
  -- the tag is not known to be there: an error at the whole, and no type. For any entity the error
  -- names no type
  pub get_tag_unguarded : IsRefused (get_tag principal role) None
      (error_at 1 (unsafe_tag_access (Some (user ∷ []))) ∷ [])
  pub get_tag_of_any : IsRefused (get_tag anyone role) None
      (error_at 1 (unsafe_tag_access None) ∷ [])
  -- the tag of another entity, or another tag of this one, is not enough
  pub get_tag_of_other : IsRefusedKnowing (union (with_role action) (single (tag principal one)))
      (get_tag principal role) None (error_at 1 (unsafe_tag_access (Some (user ∷ []))) ∷ [])
  -- `action.getTag("role")`: the error that the tag is not known comes before the one that there are
  -- no tags
  pub no_tags_unguarded : IsRefused (get_tag action role) None
      (error_at 1 (unsafe_tag_access (Some (greet.entity_type ∷ []))) ∷ [])
  pub no_tags : IsRefusedKnowing (with_role action) (get_tag action role) None
      (error_at 1 (no_tags_allowed (Some greet.entity_type)) ∷ [])
  pub no_tags_of_any : IsRefusedKnowingIn untagged (with_role anyone) (get_tag anyone role) None
      (error_at 1 (no_tags_allowed None) ∷ [])
  -- `?principal.getTag("role")`, if the tag is known: the tags of users and of robots have no bound
  pub no_bound : IsRefusedKnowing (with_role anyone) (get_tag anyone role) None
      (error_at 1 (incompatible_types (TLong ∷ TString ∷ []) GetTag) ∷ [])
  -- `principal.boss.getTag(1)`: the errors of both operands, then the one that the tag is not known
  pub get_tag_failed : IsRefused (get_tag get_boss one) None
      (
      unguarded_boss 2 ∷ error_at 4 (unexpected_type (TString ∷ []) TLong)
      ∷ error_at 1 (unsafe_tag_access (Some (user ∷ []))) ∷ [])
  -- `principal.boss.getTag("role")`, if the tag is known: the entity has failed, and the whole keeps
  -- its type
  pub get_tag_failed_known : IsRefusedKnowing (with_role get_boss) (get_tag get_boss role)
      (Some TString) (unguarded_boss 2 ∷ [])
  -- `(1).getTag("role")`, `principal.rank.getTag("role")`: no type, as for `hasTag`
  pub get_tag_refused : IsRefused (get_tag one role) None
      (error_at 2 (unexpected_type (TAnyEntity ∷ []) TLong) ∷ [])
  pub get_tag_missing : IsRefused (get_tag get_rank role) None (unknown_rank 2 ∷ [])
  -- `principal.nope.getTag("role")`, on Never, in Partial: an error at the whole, before all others
  pub get_tag_of_never : IsRefusedIn hidden (get_tag nope role) None
      (error_at 1 internal_invariant_violation ∷ [])
