-- Entities that stand as they are: those found so far, and those that are left.
use Rattle.std.proofs.Common.{◌≡◌, List, [], ◌∷◌, ◌++◌, map, Option, Some, None, option_map, refl, sym, ◌∙◌, ap, append_assoc}
use Rattle.cedar_types.specs.declared.base.names.entities.EntityUID.{EntityUID}
use Rattle.cedar_types.specs.declared.base.expressions.Expr.{Expr}
use Rattle.cedar_types.specs.Names.{Uid, uid_of}
use Rattle.cedar_types.specs.Environments.RequestEnvs.{Env}
use Rattle.cedar_types.specs.Expressions.View.{trees_of, written}
use Rattle.cedar_typing.specs.Rules.Membership.{entity_of, with_entity, entities_of}

abbrev Source' : Type 0
Source' = Expr (Unit {0})

abbrev pub entities_in : Env → List Source' → Option (List Uid)
entities_in r xs = entities_of r (trees_of (map written xs))

abbrev pub after : List Uid → Option (List Uid) → Option (List Uid)
after us o = option_map (λ (vs : List Uid). us ++ vs) o

joined : (us : List Uid) (u : Uid) (o : Option (List Uid)) → after (us ++ u ∷ []) o ≡ after us (with_entity (Some u) o)
joined us u None = refl
joined us u (Some vs) = ap Some (append_assoc us (u ∷ []) vs)

module _ (r : Env) (us : List Uid) (x : Source') (xs : List Source') (o : Option EntityUID)
    (found : option_map uid_of o ≡ entity_of r (written x)) where
  -- one more entity is found
  pub one_entity : (u : EntityUID) → o ≡ Some u → after (us ++ uid_of u ∷ []) (entities_in r xs) ≡ after us (entities_in r (x ∷ xs))
  one_entity u h =
      joined us (uid_of u) (entities_in r xs)
      ∙ ap (λ z. after us (with_entity z (entities_in r xs))) (sym (ap (option_map uid_of) h) ∙ found)

  pub no_entity : o ≡ None → None ≡ after us (entities_in r (x ∷ xs))
  no_entity h = ap (λ z. after us (with_entity z (entities_in r xs))) (sym (ap (option_map uid_of) h) ∙ found)
