-- Literals in the members of a set: those that are found so far, and those that are left.
use Rattle.std.proofs.Common.{◌≡◌, List, [], ◌∷◌, ◌++◌, map, Option, Some, None, option_map, refl, sym, ◌∙◌, ap, append_assoc}
use Rattle.cedar_types.specs.declared.base.expressions.Expr.{Expr}
use Rattle.cedar_types.specs.declared.base.types.CedarType.{CedarType}
use Rattle.cedar_types.specs.Expressions.View.{trees_of}
use Rattle.cedar_typing.specs.TypedExpr.{TypedTree, typed_tree}
use Rattle.cedar_where.specs.Compiled.{and_others, literals}

abbrev Typed : Type 0
Typed = Expr (Option CedarType)

abbrev pub literals_in : {A : Type 0} → (TypedTree → Option A) → List Typed → Option (List A)
literals_in f xs = literals f (trees_of (map typed_tree xs))

abbrev pub after : {A : Type 0} → List A → Option (List A) → Option (List A)
after {A} us o = option_map (λ (vs : List A). us ++ vs) o

joined : {A : Type 0} (us : List A) (u : A) (o : Option (List A)) → after (us ++ u ∷ []) o ≡ after us (and_others (Some u) o)
joined us u None = refl
joined us u (Some vs) = ap Some (append_assoc us (u ∷ []) vs)

module _ {X A : Type 0} (view : X → A) (f : TypedTree → Option A) (us : List A) (x : Typed) (xs : List Typed) (o : Option X)
    (found : option_map view o ≡ f (typed_tree x)) where
  -- an element that is a literal adds it behind those before it
  pub one_literal : (u : X) → o ≡ Some u → after (us ++ view u ∷ []) (literals_in f xs) ≡ after us (literals_in f (x ∷ xs))
  one_literal u h =
      joined us (view u) (literals_in f xs)
      ∙ ap (λ z. after us (and_others z (literals_in f xs))) (sym (ap (option_map view) h) ∙ found)

  pub no_literal : o ≡ None → None ≡ after us (literals_in f (x ∷ xs))
  no_literal h = ap (λ z. after us (and_others z (literals_in f xs))) (sym (ap (option_map view) h) ∙ found)
