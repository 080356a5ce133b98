-- Each failure has an error: `in`, and each operator on two operands.
use Rattle.std.proofs.Common.{◌≡◌, Bool, true, false, List, [], ◌∷◌, Option, Some, None, option_map, if◌then◌else◌, refl, subst}
use Rattle.std.specs.List.{list_all}
use Rattle.cedar_types.specs.declared.base.expressions.operators.BinaryOp.{BinaryOp}
use Rattle.cedar_types.specs.declared.base.expressions.operators.Var.{Var}
use Rattle.cedar_types.specs.Lemmas.Comparisons.{and_both}
use Rattle.cedar_types.specs.Names.{Uid}
use Rattle.cedar_types.specs.Expressions.Parts.{subexpressions, subexpressions_of_all}
use Rattle.cedar_types.specs.Environments.RequestEnvs.{Env, Declared, Undeclared}
use Rattle.cedar_types.specs.Schemas.{has_fault, declares_action}
use Rattle.cedar_types.specs.Expressions.Tree.{bool, long, string, entity, lit, var, set_of, Trees, no_trees, tree}
use Rattle.cedar_types.specs.Types.{Ty}
use Rattle.cedar_types.specs.Expressions.View.{Written}
use Rattle.cedar_typing.specs.Capabilities.{Caps}
use Rattle.cedar_typing.specs.Eager.{Decision, first_type, second_type}
use Rattle.cedar_typing.specs.Evaluation.Conformance.{IsEnvironmentOf}
use Rattle.cedar_typing.specs.Rules.Binary.{binary_form}
use Rattle.cedar_typing.specs.Rules.Equality.{literal_of, equality_type, equality_form}
use Rattle.cedar_typing.specs.Rules.Membership.{entity_of, with_entity, entities_of, ancestors_of, is_action, only_actions, action_decides}
use Rattle.cedar_typing.specs.Rules.Membership.{in_decides, in_form}
use Rattle.cedar_typing.specs.TypeEnv.{TypeEnv}
use Rattle.cedar_typing.specs.TypeTests.{is_any_bool}
use Rattle.cedar_typing.specs.TypedExpr.{Source, place_of}
use Rattle.cedar_typing.proofs.Basics.{some_is, none_is}
use Rattle.cedar_typing.proofs.Silence.Attributes.{has_tag_loud, get_tag_loud}
use Rattle.cedar_typing.proofs.Silence.Eager.{IsLoudDecision, LoudForm}
use Rattle.cedar_typing.proofs.Silence.Names.{AreClean, clean_left, clean_right, action_declared, env_action}
use Rattle.cedar_typing.proofs.Silence.Tables.{loud_if, loud_unless, arithmetic_loud, comparison_loud}

module _ (env : TypeEnv) (faults : has_fault env.schema ≡ false) (of_schema : IsEnvironmentOf env.schema env.request_env) where
  -- ---- actions that stand as they are

  abbrev AreDeclared : List Uid → Type 0
  AreDeclared us = list_all (declares_action env.schema.actions) (only_actions us) ≡ true

  -- the entity u is declared, if it is an action
  abbrev IsDeclared : Uid → Type 0
  IsDeclared u = is_action u ≡ true → declares_action env.schema.actions u ≡ true

  variable_declared : (r : Env) → IsEnvironmentOf env.schema r → (m : Written) (x : Var) (u : Uid)
      → entity_of r (var m x) ≡ Some u → IsDeclared u
  variable_declared (Declared d ps rs) h m Var.Action u e k =
      subst (λ v. declares_action env.schema.actions v ≡ true) (some_is e) (env_action env.schema faults d h).1
  variable_declared Undeclared h m Var.Action u e k = absurd h
  variable_declared r h m Var.Principal u e k = cc
  variable_declared r h m Var.Resource u e k = cc
  variable_declared r h m Var.Context u e k = cc

  entity_declared : (e : Source) → AreClean env.schema (subexpressions e) → (u : Uid) → entity_of env.request_env e ≡ Some u → IsDeclared u
  entity_declared (lit m (bool b)) h u e k = cc
  entity_declared (lit m (long z)) h u e k = cc
  entity_declared (lit m (string t)) h u e k = cc
  entity_declared (lit m (entity v)) h u e k = subst IsDeclared (some_is e) (action_declared env.schema m v h.0) k
  entity_declared (var m x) h u e k = variable_declared env.request_env of_schema m x u e k
  entity_declared e h u q k = absurd (none_is q)

  one_more_declared : (b : Bool) (u : Uid) (us : List Uid) → (b ≡ true → declares_action env.schema.actions u ≡ true) → AreDeclared us
      → list_all (declares_action env.schema.actions) (if b then u ∷ only_actions us else only_actions us) ≡ true
  one_more_declared true u us f h =
      and_both (declares_action env.schema.actions u)
      (list_all (declares_action env.schema.actions) (only_actions us)) (f refl) h
  one_more_declared false u us f h = h

  with_declared : (o : Option Uid) (os : Option (List Uid)) (vs : List Uid)
      → ((u : Uid) → o ≡ Some u → IsDeclared u) → ((us : List Uid) → os ≡ Some us → AreDeclared us)
      → with_entity o os ≡ Some vs → AreDeclared vs
  with_declared None None vs f g e = cc
  with_declared None (Some us) vs f g e = cc
  with_declared (Some u) None vs f g e = cc
  with_declared (Some u) (Some us) vs f g e = subst AreDeclared (some_is e) (one_more_declared (is_action u) u us (f u refl) (g us refl))

  listed_declared : (ts : Trees Written) → AreClean env.schema (subexpressions_of_all ts) → (vs : List Uid)
      → entities_of env.request_env ts ≡ Some vs → AreDeclared vs
  listed_declared no_trees h vs e = subst AreDeclared (some_is e) refl
  listed_declared (tree x ts) h vs e =
      let xs = subexpressions_of_all ts in
      with_declared (entity_of env.request_env x) (entities_of env.request_env ts) vs
      (entity_declared x (clean_right env.schema xs (subexpressions x) h))
      (listed_declared ts (clean_left env.schema xs (subexpressions x) h)) e

  alone_declared : (o : Option Uid) (vs : List Uid) → ((u : Uid) → o ≡ Some u → IsDeclared u)
      → option_map (λ u. u ∷ []) o ≡ Some vs → AreDeclared vs
  alone_declared None vs f e = cc
  alone_declared (Some u) vs f e = subst AreDeclared (some_is e) (one_more_declared (is_action u) u [] (f u refl) refl)

  ancestors_declared : (e : Source) → AreClean env.schema (subexpressions e) → (vs : List Uid)
      → ancestors_of env.request_env e ≡ Some vs → AreDeclared vs
  ancestors_declared (set_of m ts) h vs q = listed_declared ts h.1 vs q
  ancestors_declared e h vs q = alone_declared (entity_of env.request_env e) vs (entity_declared e h) q

  -- ---- `in`

  declared_loud : (b : Bool) (d e : Decision) → b ≡ true → IsLoudDecision d → IsLoudDecision (if b then d else e)
  declared_loud true d e h k = k
  declared_loud false d e h k = cc

  action_loud : (u : Uid) (vs : List Uid) → AreDeclared vs → IsLoudDecision (action_decides env u (only_actions vs))
  action_loud u vs h = declared_loud (list_all (declares_action env.schema.actions) (only_actions vs)) _ _ h tt

  entities_loud : (u : Option Uid) (vs : Option (List Uid)) (s t : Option Ty)
      → ((us : List Uid) → vs ≡ Some us → AreDeclared us) → IsLoudDecision (in_decides env u vs s t)
  entities_loud (Some u) (Some vs) s t f = loud_if (is_action u) _ _ (action_loud u vs (f vs refl)) tt
  entities_loud None vs s t f = tt
  entities_loud (Some u) None s t f = tt

  in_loud : (m : Written) (a b : Source) → AreClean env.schema (subexpressions b) → LoudForm 2 (in_form env m a b)
  in_loud m a b h ts k =
      entities_loud (entity_of env.request_env a) (ancestors_of env.request_env b) (first_type ts) (second_type ts)
      (ancestors_declared b h)

  -- ---- all operators

  equality_loud : (m : Written) (a b : Source) → LoudForm 2 (equality_form env m a b)
  equality_loud m a b ts h =
      let x = literal_of env.request_env a in
      let y = literal_of env.request_env b in
      loud_if (is_any_bool (equality_type x y (first_type ts) (second_type ts))) _ _ (loud_unless _ _) tt

  pub binary_loud : (m : Written) (prior : Caps) (a b : Source) (o : BinaryOp)
      → AreClean env.schema (subexpressions b) → LoudForm 2 (binary_form env m prior a b o)
  binary_loud m prior a b BinaryOp.Eq h = equality_loud m a b
  binary_loud m prior a b BinaryOp.Less h = comparison_loud env m (place_of a) (place_of b) BinaryOp.Less
  binary_loud m prior a b BinaryOp.LessEq h = comparison_loud env m (place_of a) (place_of b) BinaryOp.LessEq
  binary_loud m prior a b BinaryOp.Add h = arithmetic_loud m BinaryOp.Add
  binary_loud m prior a b BinaryOp.Sub h = arithmetic_loud m BinaryOp.Sub
  binary_loud m prior a b BinaryOp.Mul h = arithmetic_loud m BinaryOp.Mul
  binary_loud m prior a b BinaryOp.In h = in_loud m a b h
  binary_loud m prior a b BinaryOp.Contains h = λ ts k. loud_unless _ _
  binary_loud m prior a b BinaryOp.ContainsAll h = λ ts k. loud_unless _ _
  binary_loud m prior a b BinaryOp.ContainsAny h = λ ts k. loud_unless _ _
  binary_loud m prior a b BinaryOp.GetTag h = get_tag_loud env m prior a b
  binary_loud m prior a b BinaryOp.HasTag h = has_tag_loud env m prior a b
