-- Each node of a typed copy has a type: the induction over expressions.
use Rattle.std.proofs.Common.{ℕ, ◌+◌, Bool, true, List, [], ◌∷◌, sym, subst}
use Rattle.cedar_types.specs.declared.base.expressions.operators.BinaryOp.{BinaryOp}
use Rattle.cedar_types.specs.declared.base.expressions.operators.UnaryOp.{UnaryOp}
use Rattle.cedar_types.specs.Expressions.Tree.{lit, var, slot, unknown, if_then_else, and, or, unary, binary, call, get_attr, has_attr}
use Rattle.cedar_types.specs.Expressions.Tree.{ext_has_attr, like, is_type, set_of, record_of, Trees, no_trees, tree, Fields, no_fields}
use Rattle.cedar_types.specs.Expressions.Tree.{field}
use Rattle.cedar_types.specs.Expressions.View.{Written}
use Rattle.cedar_typing.specs.Capabilities.{Caps}
use Rattle.cedar_typing.specs.Eager.{Expectation, later_expectations}
use Rattle.cedar_typing.specs.Rules.{rules, rules_within, rules_all, rules_fields}
use Rattle.cedar_typing.specs.Rules.Attributes.{has_form, get_form}
use Rattle.cedar_typing.specs.Rules.Binary.{binary_form}
use Rattle.cedar_typing.specs.Rules.Calls.{arguments, call_form}
use Rattle.cedar_typing.specs.Rules.Chains.{chain_form}
use Rattle.cedar_typing.specs.Rules.Records.{field_keys, record_form}
use Rattle.cedar_typing.specs.Rules.Sets.{set_form}
use Rattle.cedar_typing.specs.Rules.ShortCircuit.{conjunction, disjunction}
use Rattle.cedar_typing.specs.Rules.Unary.{unary_form, like_form, is_form}
use Rattle.cedar_typing.specs.Setting.{Setting}
use Rattle.cedar_typing.specs.TypedExpr.{Source, TypedTree, Mark, place_of}
use Rattle.cedar_typing.proofs.Agreement.Induction.{agrees}
use Rattle.cedar_typing.proofs.Agreement.Operators.{unary_node, binary_node}
use Rattle.cedar_node_types.proofs.NodeTypes.Typed.{HasTy, Nodes, no_nodes, above, beside, Typed, within_typed, leaf_typed, if_typed, sides_typed}
use Rattle.cedar_node_types.proofs.NodeTypes.Typed.{whole_typed, one_typed, two_typed, OperandsTyped, none_typed, more_typed, ValuesTyped}
use Rattle.cedar_node_types.proofs.NodeTypes.Typed.{no_values_typed, more_values_typed}

module _ (s : Setting) where
  -- an operator's node is that operator on its operands
  unary_at : (m : Written) (o : UnaryOp) (k : Mark) (y : TypedTree) → HasTy k → Nodes y → Nodes ((unary_form m o).node k (y ∷ []))
  unary_at m o k y h i = subst Nodes (sym (unary_node m o k (y ∷ []))) (above h i)

  binary_at : (m : Written) (prior : Caps) (a b : Source) (o : BinaryOp) (k : Mark) (y z : TypedTree) → HasTy k
      → Nodes y → Nodes z → Nodes ((binary_form s.env m prior a b o).node k (y ∷ z ∷ []))
  binary_at m prior a b o k y z h i j =
      subst Nodes (sym (binary_node s.env m prior a b o k (y ∷ z ∷ []))) (above h (beside i j))

  mutual
    typed_within : (e : Source) (prior : Caps) (d : ℕ) → Typed (rules_within s e prior d)
    typed_within (lit m x) prior d = leaf_typed _ m (λ k. lit k x) (λ k h. above h no_nodes)
    typed_within (var m x) prior d = leaf_typed _ m (λ k. var k x) (λ k h. above h no_nodes)
    typed_within (slot m x) prior d = leaf_typed _ m (λ k. slot k x) (λ k h. above h no_nodes)
    typed_within (unknown m n) prior d = record { nodes = λ t c x h. absurd h }
    typed_within (if_then_else m x y z) prior d =
        if_typed s.env m (place_of x) (place_of x) _ _ prior (within_typed (d + 1) (typed_within x prior (d + 1)))
        (λ p. within_typed (d + 1) (typed_within y p (d + 1))) _ (within_typed (d + 1) (typed_within z prior (d + 1)))
    typed_within (and m x y) prior d =
        sides_typed s.env m (place_of x) (place_of y) _ _ prior (within_typed (d + 1) (typed_within x prior (d + 1)))
        (λ p. within_typed (d + 1) (typed_within y p (d + 1))) conjunction (λ k a b h i j. above h (beside i j))
        (agrees s x prior (d + 1)).marks
    typed_within (or m x y) prior d =
        sides_typed s.env m (place_of x) (place_of y) _ _ prior (within_typed (d + 1) (typed_within x prior (d + 1)))
        (λ p. within_typed (d + 1) (typed_within y p (d + 1))) disjunction (λ k a b h i j. above h (beside i j))
        (agrees s x prior (d + 1)).marks
    typed_within (unary m o x) prior d =
        one_typed s.env (unary_form m o) (place_of x) _ (unary_at m o) (within_typed (d + 1) (typed_within x prior (d + 1)))
    typed_within (binary m o x y) prior d =
        two_typed s.env (binary_form s.env m prior x y o) (place_of x) (place_of y) _ _ (binary_at m prior x y o)
        (within_typed (d + 1) (typed_within x prior (d + 1))) (within_typed (d + 1) (typed_within y prior (d + 1)))
    typed_within (call m n ts) prior d =
        let f = call_form s.env s.functions m n (arguments ts) in
        let i = all_typed f.goes_on f.expects ts prior (d + 1) in
        whole_typed f _ (λ k xs h ds. above h (i.nodes xs ds))
    typed_within (get_attr m x a) prior d =
        one_typed s.env (get_form s.env m prior x a) (place_of x) _ (λ k y h i. above h i)
        (within_typed (d + 1) (typed_within x prior (d + 1)))
    typed_within (has_attr m x a) prior d =
        one_typed s.env (has_form s.env m prior x a) (place_of x) _ (λ k y h i. above h i)
        (within_typed (d + 1) (typed_within x prior (d + 1)))
    typed_within (ext_has_attr m x a xs) prior d =
        one_typed s.env (chain_form s.env m prior x a xs) (place_of x) _ (λ k y h i. above h i)
        (within_typed (d + 1) (typed_within x prior (d + 1)))
    typed_within (like m x p) prior d =
        one_typed s.env (like_form m p) (place_of x) _ (λ k y h i. above h i) (within_typed (d + 1) (typed_within x prior (d + 1)))
    typed_within (is_type m x n) prior d =
        one_typed s.env (is_form m n) (place_of x) _ (λ k y h i. above h i) (within_typed (d + 1) (typed_within x prior (d + 1)))
    typed_within (set_of m ts) prior d =
        let i = all_typed true [] ts prior (d + 1) in
        whole_typed (set_form s.env m) _ (λ k xs h ds. above h (i.nodes xs ds))
    typed_within (record_of m fs) prior d =
        let i = fields_typed fs prior (d + 1) in
        whole_typed (record_form s.env m (field_keys fs)) _ (λ k xs h ds. above h (i.nodes xs ds))

    all_typed : (goes_on : Bool) (qs : List Expectation) (ts : Trees Written) (prior : Caps) (d : ℕ)
        → OperandsTyped s.env (rules_all s goes_on qs ts prior d)
    all_typed goes_on qs no_trees prior d = none_typed s.env
    all_typed goes_on qs (tree e ts) prior d =
        more_typed s.env goes_on _ (place_of e) _ _ (within_typed d (typed_within e prior d))
        (all_typed goes_on (later_expectations qs) ts prior d)

    fields_typed : (fs : Fields Written) (prior : Caps) (d : ℕ) → ValuesTyped s.env (field_keys fs) (rules_fields s fs prior d)
    fields_typed no_fields prior d = no_values_typed s.env
    fields_typed (field k e fs) prior d =
        more_values_typed s.env k (field_keys fs) (place_of e) _ _ (within_typed d (typed_within e prior d)) (fields_typed fs prior d)

  pub copies_typed : (e : Source) (prior : Caps) (d : ℕ) → Typed (rules s e prior d)
  copies_typed e prior d = within_typed d (typed_within e prior d)
