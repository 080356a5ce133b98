-- Two environments agree on which expressions are literals or actions, if they agree on the
-- variables.
use Rattle.std.proofs.Common.{◌≡◌, [], ◌∷◌, option_map, refl, ap}
use Rattle.cedar_types.specs.declared.base.expressions.operators.Var.{Var}
use Rattle.cedar_types.specs.Expressions.Tree.{var, set_of, Trees, no_trees, tree}
use Rattle.cedar_types.specs.Expressions.View.{Written}
use Rattle.cedar_types.specs.Environments.RequestEnvs.{Env}
use Rattle.cedar_typing.specs.Rules.Equality.{variable_literal, literal_of}
use Rattle.cedar_typing.specs.Rules.Membership.{literal_entity, entity_of, with_entity, entities_of, ancestors_of}
use Rattle.cedar_typing.specs.TypedExpr.{Source}

module _ (here elsewhere : Env) (same : (x : Var) → variable_literal here x ≡ variable_literal elsewhere x) where
  pub literal_same : (e : Source) → literal_of here e ≡ literal_of elsewhere e
  literal_same (var m x) = same x
  literal_same e = refl

  pub entity_same : (e : Source) → entity_of here e ≡ entity_of elsewhere e
  entity_same e = ap literal_entity (literal_same e)

  entities_same : (ts : Trees Written) → entities_of here ts ≡ entities_of elsewhere ts
  entities_same no_trees = refl
  entities_same (tree e ts) = λ i. with_entity (entity_same e i) (entities_same ts i)

  pub ancestors_same : (e : Source) → ancestors_of here e ≡ ancestors_of elsewhere e
  ancestors_same (set_of m ts) = entities_same ts
  ancestors_same (var m x) = ap (λ o. option_map (λ u. u ∷ []) (literal_entity o)) (same x)
  ancestors_same e = refl
