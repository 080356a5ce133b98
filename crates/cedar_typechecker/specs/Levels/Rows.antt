-- The worked rows of levels, by their numbers: the faults that the rules compute, with repeats.
use Rattle.std.specs.Prelude.{◌≡◌, false, [], ◌∷◌, Some, codes}
use Rattle.cedar_types.specs.declared.base.expressions.operators.BinaryOp.{BinaryOp}
use Rattle.cedar_types.specs.declared.base.expressions.operators.Var.{Var}
use Rattle.cedar_types.specs.declared.base.types.ValidationMode.TheVariants.{Strict, Permissive}
use Rattle.cedar_types.specs.Errors.{literal_dereference_target}
use Rattle.cedar_types.specs.Expressions.Tree.{var, and, or, binary, is_type}
use Rattle.cedar_types.specs.Types.{TRecord}
use Rattle.cedar_typing.specs.Examples.Expressions.{true_lit, false_lit, the, principal, context, has2}
use Rattle.cedar_typing.specs.Examples.World.{user, alice, bob}
use Rattle.cedar_typechecker.specs.Levels.Costs.{attributes_cost}
use Rattle.cedar_typechecker.specs.Levels.Errors.{exceeds}
use Rattle.cedar_typechecker.specs.Levels.Examples.{a_user, one_user, view, photos, faults_in, verdict_linked, faults_at, strictly}
use Rattle.cedar_typechecker.specs.Levels.Examples.{errors_at, at_node, resource, user_of, bool_of, has_three, foo_bar, foo_of, only_foo}
use Rattle.cedar_typechecker.specs.Levels.Examples.{chosen, four_users, long_chain, in_slot}

pub record LevelRows : Type 0 where
  -- 1: `{foo: principal}.foo is User`
  pub literal_base : strictly 0 (is_type tt (foo_of (only_foo principal)) user) ≡ []
  -- 2: `principal.bool`
  pub access_0 : errors_at 0 (bool_of principal) ≡ at_node 1 (exceeds 0 1) ∷ []
  pub access_1 : errors_at 1 (bool_of principal) ≡ []
  -- 3: `Action::"view" in action`
  pub in_0 :
      errors_at 0 (binary tt BinaryOp.In (the view) (var tt Var.Action))
      ≡ at_node 1 (exceeds 0 1) ∷ []
  pub in_1 : errors_at 1 (binary tt BinaryOp.In (the view) (var tt Var.Action)) ≡ []
  -- 4: `{foo: principal, bar: principal.user.user.user.user}.foo.bool`
  pub other_key_3 :
      errors_at 3 (bool_of (foo_of (foo_bar principal four_users)))
      ≡ at_node 4 (exceeds 3 4) ∷ []
  pub other_key_4 : errors_at 4 (bool_of (foo_of (foo_bar principal four_users))) ≡ []
  -- 5: `(if principal.bool then principal.user else resource.user.user).bool`
  pub branches_2 :
      errors_at 2 (bool_of (chosen (user_of principal) (user_of (user_of resource))))
      ≡ at_node 1 (exceeds 2 3) ∷ []
  pub branches_3 :
      errors_at 3 (bool_of (chosen (user_of principal) (user_of (user_of resource)))) ≡ []
  -- 6: `{foo: User::"alice", bar: User::"bob"}.foo.bool`
  pub literal :
      errors_at 1 (bool_of (foo_of (foo_bar (the alice) (the bob))))
      ≡ at_node 5 literal_dereference_target ∷ []
  -- 7: `false && principal.bool`
  pub dropped : strictly 0 (and tt false_lit (bool_of principal)) ≡ []
  -- 8: `principal has nested.user.bool`
  pub chain_1 : errors_at 1 (has_three principal) ≡ at_node 1 (exceeds 1 2) ∷ []
  pub chain_2 : errors_at 2 (has_three principal) ≡ []
  -- 16: costs of chains of a user, and of a closed record with a user
  pub costs :
      attributes_cost photos a_user (codes "user" ∷ [])
      ∷ attributes_cost photos a_user []
      ∷ attributes_cost photos a_user (codes "user" ∷ codes "bool" ∷ [])
      ∷ attributes_cost photos (TRecord one_user false) (codes "user" ∷ [])
      ∷ attributes_cost photos (TRecord one_user false) (codes "user" ∷ codes "bool" ∷ [])
      ∷ []
      ≡ 1 ∷ 0 ∷ 2 ∷ 0 ∷ 1 ∷ []
  -- 18: `principal.user.user.user.user.user.bool`
  pub long_2 : strictly 2 long_chain ≡ exceeds 2 6 ∷ []
  pub long_greatest : strictly 4294967295 long_chain ≡ []
  -- 23: `(principal.bool || true) || true`
  pub left_0 :
      strictly 0 (or tt (or tt (bool_of principal) true_lit) true_lit) ≡ exceeds 0 1 ∷ []
  pub left_1 : strictly 1 (or tt (or tt (bool_of principal) true_lit) true_lit) ≡ []
  -- 24: `{foo: principal.user}.foo.bool`
  pub through_record_0 :
      errors_at 0 (bool_of (foo_of (only_foo (user_of principal))))
      ≡ at_node 1 (exceeds 0 2) ∷ []
  -- 25: `context has nested.user`, `{foo: principal.user} has foo.bool`
  pub record_chain_0 : strictly 0 (has2 context (codes "nested") (codes "user")) ≡ []
  pub record_chain_1 :
      errors_at 1 (has2 (only_foo (user_of principal)) (codes "foo") (codes "bool"))
      ≡ at_node 1 (exceeds 1 2) ∷ []
  pub record_chain_2 :
      strictly 2 (has2 (only_foo (user_of principal)) (codes "foo") (codes "bool")) ≡ []
  -- 43: `principal.bool && false`, which is irrelevant
  pub irrelevant_0 : strictly 0 (and tt (bool_of principal) false_lit) ≡ exceeds 0 1 ∷ []
  pub irrelevant_1 : strictly 1 (and tt (bool_of principal) false_lit) ≡ []
  -- 44: `permit(principal in ?principal, action, resource)`
  pub scope_0 : faults_in 0 (verdict_linked Strict (Some user) in_slot) ≡ exceeds 0 1 ∷ []
  pub scope_1 : faults_in 1 (verdict_linked Strict (Some user) in_slot) ≡ []
  -- 55, in Permissive: `(if principal.bool then principal.user else resource).user.bool`
  pub union_2 :
      faults_at Permissive 2 (bool_of (user_of (chosen (user_of principal) resource)))
      ≡ exceeds 2 3 ∷ []
  pub union_3 :
      faults_at Permissive 3 (bool_of (user_of (chosen (user_of principal) resource))) ≡ []
  -- 55 too, in Permissive: `(if principal.bool then principal else resource) has user.bool`
  pub union_chain_1 :
      faults_at Permissive 1 (has2 (chosen principal resource) (codes "user") (codes "bool"))
      ≡ exceeds 1 2 ∷ []
  pub union_chain_2 :
      faults_at Permissive 2 (has2 (chosen principal resource) (codes "user") (codes "bool"))
      ≡ []
