-- All expressions: each typed copy evaluates as its expression does.
use Rattle.std.proofs.Common.{ℕ, ◌+◌, Bool, true, List, [], ◌∷◌, refl, ap, subst}
use Rattle.cedar_types.specs.declared.base.expressions.operators.BinaryOp.{BinaryOp}
use Rattle.cedar_types.specs.declared.base.expressions.operators.UnaryOp.{UnaryOp}
use Rattle.cedar_types.specs.declared.base.location.Loc.{Loc}
use Rattle.std.proofs.Common.{Option}
use Rattle.cedar_types.specs.Expressions.Tree.{lit, var, slot, unknown, if_then_else, and, or, unary, binary, call, get_attr, has_attr}
use Rattle.cedar_types.specs.Expressions.Tree.{ext_has_attr, like, is_type, set_of, record_of, Trees, no_trees, tree, Fields, no_fields}
use Rattle.cedar_types.specs.Expressions.Tree.{field}
use Rattle.cedar_types.specs.Expressions.View.{Written}
use Rattle.cedar_types.specs.Values.{VSet}
use Rattle.cedar_typing.specs.Capabilities.{Caps, union}
use Rattle.cedar_typing.specs.Eager.{Expectation, later_expectations}
use Rattle.cedar_typing.specs.Evaluation.Conformance.{SlotsBound, AllSlotsBound, FieldSlotsBound}
use Rattle.cedar_typing.specs.Evaluation.Eval.{unary_outcome, binary_outcome, get, has_test, path_test, like_outcome, is_of, called, eval}
use Rattle.cedar_typing.specs.Evaluation.Eval.{eval_all, eval_fields}
use Rattle.cedar_typing.specs.Evaluation.Outcomes.{of_test, on_value, on_values, then_test, record_outcome}
use Rattle.cedar_typing.specs.Evaluation.World.{World, Slots, Outcome, Gives, call_value}
use Rattle.cedar_typing.specs.Judgments.{Judgment, visited}
use Rattle.cedar_typing.specs.Rules.{rules, rules_within, rules_all, rules_fields}
use Rattle.cedar_typing.specs.Rules.Attributes.{has_form, get_form}
use Rattle.cedar_typing.specs.Rules.Binary.{binary_form}
use Rattle.cedar_typing.specs.Rules.Calls.{arguments, call_form}
use Rattle.cedar_typing.specs.Rules.Chains.{chain_form}
use Rattle.cedar_typing.specs.Rules.Eager.{one_operand_rules, two_operand_rules}
use Rattle.cedar_typing.specs.Rules.Records.{field_keys, record_form}
use Rattle.cedar_typing.specs.Rules.Sets.{set_form}
use Rattle.cedar_typing.specs.Rules.Unary.{unary_form, like_form, is_form}
use Rattle.cedar_typing.specs.Setting.{Setting}
use Rattle.cedar_typing.specs.TypedExpr.{Source, TypedTree, place_of}
use Rattle.cedar_typing.proofs.Agreement.Operators.{unary_node, binary_node}
use Rattle.cedar_typing.proofs.TypedCopies.Choices.{if_copies, and_copies, or_copies}
use Rattle.cedar_typing.proofs.TypedCopies.Leaves.{leaf_copies, unknown_copies}
use Rattle.cedar_typing.proofs.TypedCopies.Operands.{one_copies, two_copies, AllCopied, none_copied, more_copied, all_copies, FieldsCopied}
use Rattle.cedar_typing.proofs.TypedCopies.Operands.{no_fields_copied, more_fields_copied, whole_copies}
use Rattle.cedar_typing.proofs.TypedCopies.Same.{IsClosed, Told, told_left, Copies, within_copies}

module _ (S : TypedTree → Type 0) (Known : Caps → Type 0) (R : Type 0) (s : Setting) (world : World) (b : Slots) (closed : IsClosed S)
    (gather : (c c' : Caps) → Known c → Known c' → Known (union c c')) where
  deeper : (d : ℕ) {o : Outcome} {J : Judgment} → Copies S R world o J → Copies S R world o (visited d J)
  deeper d {o} {J} i = within_copies S R world d o J i

  -- ---- operators

  pub unary_copies : (m : Written) (op : UnaryOp) (l : Option Loc) (o : Outcome) (J : Judgment) → Copies S R world o J
      → Copies S R world (unary_outcome op o) (one_operand_rules s.env (unary_form m op) l J)
  unary_copies m op =
      one_copies S R world closed s.env (unary_form m op) (unary_outcome op)
      (λ k y. ap (eval world) (unary_node m op k (y ∷ [])))
      (λ k y h. closed.one k op y (subst S (unary_node m op k (y ∷ [])) h))

  -- an operator on two outcomes
  abbrev both_values : BinaryOp → Outcome → Outcome → Outcome
  both_values op o o' = on_value o (λ v. on_value o' (binary_outcome world.store world.functions op v))

  pub binary_copies : (m : Written) (prior : Caps) (x y : Source) (op : BinaryOp) (l l' : Option Loc) (o o' : Outcome) (J J' : Judgment)
      → Copies S R world o J → Copies S R world o' J'
      → Copies S R world (both_values op o o') (two_operand_rules s.env (binary_form s.env m prior x y op) l l' J J')
  binary_copies m prior x y op =
      let node = binary_node s.env m prior x y op in
      two_copies S R world closed s.env (binary_form s.env m prior x y op) (both_values op)
      (λ k a c. ap (eval world) (node k (a ∷ c ∷ [])))
      (λ k a c h. closed.two k op a c (subst S (node k (a ∷ c ∷ [])) h))

  -- ---- the induction, from the facts about each expression whose slots are bound

  module _ (told : (e : Source) → SlotsBound b e → (prior : Caps) (d : ℕ) → Known prior
      → Told S Known R (eval world e) (rules s e prior d)) where
    mutual
      copies_within : (e : Source) → SlotsBound b e → (prior : Caps) (d : ℕ) → Known prior
          → Copies S R world (eval world e) (rules_within s e prior d)
      copies_within (lit m x) n prior d h = leaf_copies S R world m (λ k. lit k x) _ (λ k. refl) _
      copies_within (var m x) n prior d h = leaf_copies S R world m (λ k. var k x) _ (λ k. refl) _
      copies_within (slot m x) n prior d h = leaf_copies S R world m (λ k. slot k x) _ (λ k. refl) _
      copies_within (unknown m x) n prior d h = unknown_copies S R world x m
      copies_within (if_then_else m x y z) n prior d h =
          if_copies S Known R world closed gather s.env m (place_of x) _ _ _ _ _ _ prior h
          (told x n.0 prior (d + 1) h)
          (deeper (d + 1) (copies_within x n.0 prior (d + 1) h))
          (λ c k. deeper (d + 1) (copies_within y n.1 c (d + 1) k))
          (deeper (d + 1) (copies_within z n.2 prior (d + 1) h))
      copies_within (and m x y) n prior d h =
          and_copies S Known R world closed gather s.env m (place_of x) (place_of y) _ _ _ _ prior h
          (told_left S Known R _ _ (told x n.0 prior (d + 1) h))
          (deeper (d + 1) (copies_within x n.0 prior (d + 1) h))
          (λ c k. deeper (d + 1) (copies_within y n.1 c (d + 1) k))
      copies_within (or m x y) n prior d h =
          or_copies S Known R world closed gather s.env m (place_of x) (place_of y) _ _ _ _ prior
          (told x n.0 prior (d + 1) h)
          (deeper (d + 1) (copies_within x n.0 prior (d + 1) h))
          (deeper (d + 1) (copies_within y n.1 prior (d + 1) h))
      copies_within (unary m op x) n prior d h =
          unary_copies m op (place_of x) _ _ (deeper (d + 1) (copies_within x n prior (d + 1) h))
      copies_within (binary m op x y) n prior d h =
          binary_copies m prior x y op (place_of x) (place_of y) _ _ _ _
          (deeper (d + 1) (copies_within x n.0 prior (d + 1) h)) (deeper (d + 1) (copies_within y n.1 prior (d + 1) h))
      copies_within (call m f ts) n prior d h =
          let g = call_form s.env s.functions m f (arguments ts) in
          all_copies S R world closed s.env g
          (λ os. on_values os (λ vs. called (call_value world.functions.calls f vs)))
          (λ k xs. refl) (λ k xs. closed.arguments k f _) _ _ (copied_all g.goes_on g.expects ts n prior (d + 1) h)
      copies_within (get_attr m x y) n prior d h =
          one_copies S R world closed s.env (get_form s.env m prior x y) (λ o. on_value o (get world.store y)) (λ k a. refl)
          (λ k a. closed.base k a y) (place_of x) _ _ (deeper (d + 1) (copies_within x n prior (d + 1) h))
      copies_within (has_attr m x y) n prior d h =
          one_copies S R world closed s.env (has_form s.env m prior x y) (λ o. of_test (then_test o (has_test world.store y)))
          (λ k a. refl) (λ k a. closed.tested k a y) (place_of x) _ _ (deeper (d + 1) (copies_within x n prior (d + 1) h))
      copies_within (ext_has_attr m x y ys) n prior d h =
          one_copies S R world closed s.env (chain_form s.env m prior x y ys)
          (λ o. of_test (then_test o (path_test world.store y ys)))
          (λ k a. refl) (λ k a. closed.chained k a y ys) (place_of x) _ _ (deeper (d + 1) (copies_within x n prior (d + 1) h))
      copies_within (like m x p) n prior d h =
          one_copies S R world closed s.env (like_form m p) (λ o. on_value o (like_outcome p)) (λ k a. refl)
          (λ k a. closed.matched k a p) (place_of x) _ _ (deeper (d + 1) (copies_within x n prior (d + 1) h))
      copies_within (is_type m x p) n prior d h =
          one_copies S R world closed s.env (is_form m p) (λ o. on_value o (is_of p)) (λ k a. refl)
          (λ k a. closed.sorted k a p) (place_of x) _ _ (deeper (d + 1) (copies_within x n prior (d + 1) h))
      copies_within (set_of m ts) n prior d h =
          all_copies S R world closed s.env (set_form s.env m) (λ os. on_values os (λ vs. Gives (VSet vs)))
          (λ k xs. refl) (λ k xs. closed.members k _) _ _ (copied_all true [] ts n prior (d + 1) h)
      copies_within (record_of m fs) n prior d h =
          let i = copied_fields fs n prior (d + 1) h in
          whole_copies S R world closed (record_form s.env m (field_keys fs)) _ _
          (λ k xs ds w. λ j. record_outcome (i.derivations xs ds (closed.values k _ w) j))
          (λ r k g xs es ds w. λ j. record_outcome (i.givings r g xs es ds (closed.values k _ w) j))

      copied_all : (goes_on : Bool) (qs : List Expectation) (ts : Trees Written) → AllSlotsBound b ts
          → (prior : Caps) (d : ℕ) → Known prior
          → AllCopied S R world closed s.env (eval_all world ts) (rules_all s goes_on qs ts prior d)
      copied_all goes_on qs no_trees n prior d h = none_copied S R world closed s.env
      copied_all goes_on qs (tree e ts) n prior d h =
          more_copied S R world closed s.env goes_on _ (place_of e) _ _ _ _
          (deeper d (copies_within e n.0 prior d h)) (copied_all goes_on (later_expectations qs) ts n.1 prior d h)

      copied_fields : (fs : Fields Written) → FieldSlotsBound b fs → (prior : Caps) (d : ℕ) → Known prior
          → FieldsCopied S R world closed s.env (field_keys fs) (eval_fields world fs) (rules_fields s fs prior d)
      copied_fields no_fields n prior d h = no_fields_copied S R world closed s.env
      copied_fields (field k e fs) n prior d h =
          more_fields_copied S R world closed s.env (place_of e) k (field_keys fs) _ _ _ _
          (deeper d (copies_within e n.0 prior d h)) (copied_fields fs n.1 prior d h)

    pub copies : (e : Source) → SlotsBound b e → (prior : Caps) (d : ℕ) → Known prior
        → Copies S R world (eval world e) (rules s e prior d)
    copies e n prior d h = deeper d (copies_within e n prior d h)
