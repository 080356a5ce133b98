-- Computed details of levels that are easy to get wrong.
use Rattle.std.specs.Prelude.{◌≡◌, true, false, [], ◌∷◌, Some, None, codes}
use Rattle.cedar_types.specs.declared.base.names.slots.SlotId.{SlotId}
use Rattle.cedar_types.specs.declared.base.types.ValidationMode.TheVariants.{Strict}
use Rattle.cedar_types.specs.Errors.{literal_dereference_target}
use Rattle.cedar_types.specs.Expressions.Tree.{entity, lit, slot, record_of, Fields, no_fields, field, and, if_then_else}
use Rattle.cedar_types.specs.Types.{TAnyEntity, TRecord, TEntity, TLong}
use Rattle.cedar_types.specs.Expressions.View.{no_name}
use Rattle.cedar_typing.specs.Examples.Expressions.{true_lit, false_lit, principal, has2, is_in, has_tag, get_tag}
use Rattle.cedar_typing.specs.Examples.World.{user}
use Rattle.cedar_typing.specs.TypedExpr.{Mark}
use Rattle.cedar_typechecker.specs.Levels.Chains.{good_leaf, literal_leaf, bad_leaf, leaf_of}
use Rattle.cedar_typechecker.specs.Levels.Costs.{attributes_cost, keys_to_entity}
use Rattle.cedar_typechecker.specs.Levels.Errors.{exceeds}
use Rattle.cedar_typechecker.specs.Levels.Examples.{photo, view, edit, a_user, one_user, photos, faults_in, verdict_linked, passes}
use Rattle.cedar_typechecker.specs.Levels.Examples.{strictly, resource, user_of, bool_of, other_of, has_three, only_foo, has_in_slot}

-- a node of a typed expression, without a type and without a place
abbrev pub bare : Mark
bare = record { ty = None; at = record { place = None; names = no_name } }

-- `{foo: Action::"view"}`
abbrev pub only_view : Fields Mark
only_view = field (codes "foo") (lit bare (entity view)) no_fields

pub record LevelDetails : Type 0 where
  -- `if true then principal.bool else false` has its error twice, because typing puts the first
  -- branch in the place of both
  pub constant_test :
      strictly 0 (if_then_else tt true_lit (bool_of principal) false_lit)
      ≡ exceeds 0 1 ∷ exceeds 0 1 ∷ []
  -- `if false then principal.user.bool else true` drops its first branch
  pub dropped_branch :
      strictly 0 (if_then_else tt false_lit (bool_of (user_of principal)) true_lit) ≡ []
  -- the test of an `if` that is a target is checked:
  -- `(if principal.user.bool then principal else principal).bool`
  pub test_of_target :
      strictly 1 (bool_of (if_then_else tt (bool_of (user_of principal)) principal principal))
      ≡ exceeds 1 2 ∷ []
  -- the second operand of `in` is checked: `principal in resource.user.user`
  pub second_of_in : strictly 1 (is_in principal (user_of (user_of resource))) ≡ exceeds 1 2 ∷ []
  -- the second operand of `hasTag` is checked: `principal.hasTag(resource.user.other)`
  pub second_of_has_tag :
      strictly 1 (has_tag principal (other_of (user_of resource))) ≡ exceeds 1 2 ∷ []
  -- the second operand of `getTag` is checked, even if the whole is a target: `principal.hasTag(t)
  -- && principal.getTag(t).bool`, for `resource.user.other` as t. The access of the tag needs level
  -- 2 as well
  pub second_of_get_tag :
      strictly 1
      (and tt (has_tag principal (other_of (user_of resource)))
      (bool_of (get_tag principal (other_of (user_of resource)))))
      ≡ exceeds 1 2 ∷ exceeds 1 2 ∷ exceeds 1 2 ∷ []
  -- extended `has` that costs too much has only that error, whatever its base: `principal.user.user
  -- has nested.user.bool`. Else its cost is added to the level of its base
  pub chain_alone : strictly 1 (has_three (user_of (user_of principal))) ≡ exceeds 1 2 ∷ []
  pub chain_and_base : strictly 2 (has_three (user_of (user_of principal))) ≡ exceeds 2 4 ∷ []
  pub chain_within : strictly 4 (has_three (user_of (user_of principal))) ≡ []
  -- a record base is checked: `{foo: principal.bool} has foo`, as a chain of two attributes
  pub record_base :
      strictly 0 (has2 (only_foo (only_foo (bool_of principal))) (codes "foo") (codes "foo"))
      ≡ exceeds 0 1 ∷ []
  -- a base that is neither an entity nor a record is checked too: `(principal.bool has foo.bar) &&
  -- false`, whose check has an error, and is irrelevant all the same
  pub other_base :
      strictly 0 (and tt (has2 (bool_of principal) (codes "foo") (codes "bar")) false_lit)
      ≡ exceeds 0 1 ∷ []
  -- costs: a root of any entity counts, a root that is no entity does not, an entity of several
  -- types counts, and neither the last attribute nor those behind an unknown one do
  pub costs :
      attributes_cost photos TAnyEntity (codes "user" ∷ codes "user" ∷ codes "user" ∷ [])
      ∷ attributes_cost photos TAnyEntity []
      ∷ attributes_cost photos TLong (codes "user" ∷ [])
      ∷ attributes_cost photos (TEntity (photo ∷ user ∷ [])) (codes "user" ∷ codes "user" ∷ [])
      ∷ attributes_cost photos a_user (codes "nope" ∷ codes "user" ∷ codes "user" ∷ [])
      ∷ []
      ≡ 1 ∷ 0 ∷ 0 ∷ 2 ∷ 1 ∷ []
  -- the first entity must come before the last attribute, and is not behind an unknown one
  pub keys :
      keys_to_entity photos a_user (codes "nested") (codes "user" ∷ codes "bool" ∷ [])
      ∷ keys_to_entity photos (TRecord one_user false) (codes "user") []
      ∷ keys_to_entity photos a_user (codes "nope") (codes "user" ∷ codes "bool" ∷ [])
      ∷ []
      ≡ Some (codes "nested" ∷ codes "user" ∷ []) ∷ None ∷ None ∷ []
  -- the literal of the environment's action is a good leaf. That of another action, and a slot, are
  -- literal leaves. A record literal is a bad leaf if the path ends or has another key
  pub leaves :
      leaf_of (Some view) (lit bare (entity view)) []
      ∷ leaf_of (Some view) (lit bare (entity edit)) []
      ∷ leaf_of None (lit bare (entity view)) []
      ∷ leaf_of (Some view) (slot bare SlotId.Principal) []
      ∷ leaf_of (Some view) (record_of bare only_view) []
      ∷ []
      ≡ Some good_leaf ∷ Some literal_leaf ∷ Some literal_leaf ∷ Some literal_leaf
      ∷ Some bad_leaf ∷ []
  pub missing_key :
      leaf_of (Some view) (record_of bare only_view) (codes "bar" ∷ []) ≡ Some bad_leaf
  -- an unlinked slot has the type any entity: the check passes, and no error is found, though an
  -- entity is accessed
  pub unlinked_passes : passes (verdict_linked Strict None has_in_slot) ≡ true
  pub unlinked_0 : faults_in 0 (verdict_linked Strict None has_in_slot) ≡ []
  pub linked_0 : faults_in 0 (verdict_linked Strict (Some user) has_in_slot) ≡ exceeds 0 1 ∷ []
  pub linked_1 :
      faults_in 1 (verdict_linked Strict (Some user) has_in_slot)
      ≡ literal_dereference_target ∷ []
