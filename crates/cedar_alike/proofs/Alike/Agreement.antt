-- Agreement on an expression is agreement on its parts, and gives each of them one type and one literal.
use Rattle.std.proofs.Common.{◌≡◌, inl, inr, List, [], ◌∷◌, ◌++◌, Some, option_map, refl, ap}
use Rattle.cedar_types.specs.declared.base.expressions.operators.Var.{Var}
use Rattle.cedar_types.specs.declared.base.names.slots.SlotId.{SlotId}
use Rattle.cedar_types.specs.Environments.RequestEnvs.{Env}
use Rattle.cedar_types.specs.Expressions.Parts.{subexpressions, subexpressions_of_all}
use Rattle.cedar_types.specs.Expressions.Tree.{var, slot, set_of, Trees, no_trees, tree}
use Rattle.cedar_types.specs.Expressions.View.{Written}
use Rattle.cedar_typing.specs.Composition.{in_env}
use Rattle.cedar_typing.specs.Evaluation.Conformance.{IsOneOf}
use Rattle.cedar_typing.specs.Rules.Equality.{variable_literal, literal_of}
use Rattle.cedar_typing.specs.Rules.Leaves.{variable_type}
use Rattle.cedar_typing.specs.Rules.Membership.{literal_entity, entity_of, with_entity, entities_of, ancestors_of}
use Rattle.cedar_typing.specs.Setting.{Setting}
use Rattle.cedar_typing.specs.TypedExpr.{Source}
use Rattle.cedar_typing.proofs.Basics.Members.{in_left, in_right}
use Rattle.cedar_alike.specs.Reads.{AgreeOn, SameVariable, SameSlot}

module _ (here elsewhere : Env) where
  -- the environments agree on each variable and each slot among these expressions
  pub record AgreeOver (xs : List Source) : Type 0 where
    pub variables : (m : Written) (x : Var) → IsOneOf (var m x) xs → SameVariable here elsewhere x
    pub slots : (m : Written) (x : SlotId) → IsOneOf (slot m x) xs → SameSlot here elsewhere x

  pub over_parts : (e : Source) → AgreeOn here elsewhere e → AgreeOver (subexpressions e)
  over_parts e h = record {
    variables = λ m x i. h.variables x (m, i);
    slots = λ m x i. h.slots x (m, i);
  }

  pub later : (y : Source) (xs : List Source) → AgreeOver (y ∷ xs) → AgreeOver xs
  later y xs h = record {
    variables = λ m x i. h.variables m x (inr i);
    slots = λ m x i. h.slots m x (inr i);
  }

  pub left : (xs ys : List Source) → AgreeOver (xs ++ ys) → AgreeOver xs
  left xs ys h = record {
    variables = λ m x i. h.variables m x (in_left (var m x) xs ys i);
    slots = λ m x i. h.slots m x (in_left (slot m x) xs ys i);
  }

  pub right : (xs ys : List Source) → AgreeOver (xs ++ ys) → AgreeOver ys
  right xs ys h = record {
    variables = λ m x i. h.variables m x (in_right (var m x) xs ys i);
    slots = λ m x i. h.slots m x (in_right (slot m x) xs ys i);
  }

  -- ---- types and literals

  pub variable_typed : (s : Setting) (x : Var) → SameVariable here elsewhere x
      → variable_type (in_env s here).env x ≡ variable_type (in_env s elsewhere).env x
  variable_typed s Var.Principal h = ap Some h
  variable_typed s Var.Action h = h.type s.env.schema
  variable_typed s Var.Resource h = ap Some h
  variable_typed s Var.Context h = ap Some h

  variable_same : (x : Var) → SameVariable here elsewhere x → variable_literal here x ≡ variable_literal elsewhere x
  variable_same Var.Principal h = refl
  variable_same Var.Action h = h.literal
  variable_same Var.Resource h = refl
  variable_same Var.Context h = refl

  pub literal_same : (e : Source) → AgreeOver (subexpressions e) → literal_of here e ≡ literal_of elsewhere e
  literal_same (var m x) h = variable_same x (h.variables m x (inl refl))
  literal_same e h = refl

  pub entity_same : (e : Source) → AgreeOver (subexpressions e) → entity_of here e ≡ entity_of elsewhere e
  entity_same e h = ap literal_entity (literal_same e h)

  entities_same : (ts : Trees Written) → AgreeOver (subexpressions_of_all ts) → entities_of here ts ≡ entities_of elsewhere ts
  entities_same no_trees h = refl
  entities_same (tree e ts) h =
      λ i. with_entity (entity_same e (right (subexpressions_of_all ts) (subexpressions e) h) i)
      (entities_same ts (left (subexpressions_of_all ts) (subexpressions e) h) i)

  pub ancestors_same : (e : Source) → AgreeOver (subexpressions e) → ancestors_of here e ≡ ancestors_of elsewhere e
  ancestors_same (set_of m ts) h = entities_same ts (later (set_of m ts) (subexpressions_of_all ts) h)
  ancestors_same (var m x) h =
      ap (λ o. option_map (λ u. u ∷ []) (literal_entity o)) (variable_same x (h.variables m x (inl refl)))
  ancestors_same e h = refl
