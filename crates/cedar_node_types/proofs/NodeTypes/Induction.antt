-- The values of the nodes of a typed copy that evaluation reaches are of their types: the induction over
-- expressions, by what is known of the root of each copy.
use Rattle.std.proofs.Common.{ℕ, ◌+◌, ◌≤◌, Bool, true, List, [], ◌∷◌, Option, sym, subst}
use Rattle.cedar_types.specs.declared.base.expressions.operators.BinaryOp.{BinaryOp}
use Rattle.cedar_types.specs.declared.base.expressions.operators.UnaryOp.{UnaryOp}
use Rattle.cedar_types.specs.Errors.{Finding}
use Rattle.cedar_types.specs.Expressions.Tree.{lit, var, slot, unknown, if_then_else, and, or, unary, binary, call, get_attr, has_attr}
use Rattle.cedar_types.specs.Expressions.Tree.{ext_has_attr, like, is_type, set_of, record_of, Trees, no_trees, tree, Fields, no_fields}
use Rattle.cedar_types.specs.Expressions.Tree.{field}
use Rattle.cedar_types.specs.Expressions.View.{Written}
use Rattle.cedar_types.specs.Names.{Path}
use Rattle.cedar_types.specs.Types.{Ty}
use Rattle.cedar_typing.specs.Capabilities.{Caps, no_caps, union}
use Rattle.cedar_typing.specs.Eager.{Expectation, later_expectations}
use Rattle.cedar_typing.specs.Evaluation.Conformance.{SlotsBound, AllSlotsBound, FieldSlotsBound}
use Rattle.cedar_typing.specs.Evaluation.World.{World, Slots}
use Rattle.cedar_typing.specs.Judgments.{Judgment, visited, max_nesting}
use Rattle.cedar_typing.specs.Rules.{rules, rules_within, rules_all, rules_fields}
use Rattle.cedar_typing.specs.Rules.Attributes.{has_form, get_form}
use Rattle.cedar_typing.specs.Rules.Binary.{binary_form}
use Rattle.cedar_typing.specs.Rules.Calls.{arguments, call_form}
use Rattle.cedar_typing.specs.Rules.Chains.{chain_form}
use Rattle.cedar_typing.specs.Rules.Leaves.{LeafRule, leaf, LeafRecovery, leaf_missing, leaf_rules, UnknownRecovery, unknown_fails}
use Rattle.cedar_typing.specs.Rules.Leaves.{unknown_rules}
use Rattle.cedar_typing.specs.Rules.Records.{field_keys, record_form}
use Rattle.cedar_typing.specs.Rules.Sets.{set_form}
use Rattle.cedar_typing.specs.Rules.Unary.{unary_form, like_form, is_form}
use Rattle.cedar_typing.specs.Setting.{Setting}
use Rattle.cedar_typing.specs.TypedExpr.{Source, TypedTree, Mark, place_of}
use Rattle.cedar_typing.proofs.Agreement.Induction.{agrees}
use Rattle.cedar_typing.proofs.Agreement.Operators.{unary_node, binary_node}
use Rattle.cedar_node_types.proofs.NodeTypes.Choices.{if_all_fit, and_all_fit, or_all_fit}
use Rattle.cedar_node_types.proofs.NodeTypes.Operands.{whole_fits, one_fits, two_fit, OperandsFit, no_operands_fit, more_operands_fit}
use Rattle.cedar_node_types.proofs.NodeTypes.Operands.{row_fits, ValuesFit, no_values_fit, more_values_fit}
use Rattle.cedar_node_types.proofs.NodeTypes.Parts.{Roots, Fits}
use Rattle.cedar_node_types.proofs.NodeTypes.Reached.{RootFits, Fit, lit_fits, var_fits, slot_fits, unknown_fits, unary_fits, binary_fits}
use Rattle.cedar_node_types.proofs.NodeTypes.Reached.{get_fits, has_fits, chain_fits, like_fits, is_fits, call_fits, set_fits, record_fits}

module _ (Known : Caps → Type 0) (nothing : Known no_caps) (gather : (c c' : Caps) → Known c → Known c' → Known (union c c'))
    (s : Setting) (world : World) (b : Slots) where
  deeper : (d : ℕ) {J : Judgment} → (d ≤ max_nesting → Fits world J) → Fits world (visited d J)
  deeper d {J} i = record {
    derivations = λ t c x h. (i h.0).derivations t c x h.1;
    recoveries = λ x es h. (i h.0).recoveries x es h.1;
  }

  -- what is known of the root of an expression that is within the limit
  inner : (d : ℕ) (J : Judgment) → d ≤ max_nesting → Roots Known world (visited d J) → Roots Known world J
  inner d J n r = record {
    derivations = λ t c x h. r.derivations t c x (n, h);
    recoveries = λ x es h. r.recoveries x es (n, h);
  }

  -- ---- leaves

  leaf_fits : (found : Option Ty) (m : Written) (node : Mark → TypedTree) → ((k : Mark) → RootFits world (node k) → Fit world (node k))
      → Roots Known world (leaf_rules found m node) → Fits world (leaf_rules found m node)
  leaf_fits found m node at r = record { derivations = derived; recoveries = recovered }
    where
      derived : (t : Ty) (c : Caps) (x : TypedTree) → LeafRule found m node t c x → Fit world x
      derived t c x (leaf e) = at _ (r.derivations _ _ _ (leaf e)).fits

      recovered : (x : TypedTree) (es : List Finding) → LeafRecovery found m node x es → Fit world x
      recovered x es (leaf_missing e) = at _ (r.recoveries _ _ (leaf_missing e))

  unknown_recovered : (n : Path) (m : Written) (x : TypedTree) (es : List Finding) → UnknownRecovery n m x es → Fit world x
  unknown_recovered n m x es unknown_fails = unknown_fits world _ n tt

  unknown_all_fit : (n : Path) (m : Written) → Fits world (unknown_rules n m)
  unknown_all_fit n m = record { derivations = λ t c x h. absurd h; recoveries = unknown_recovered n m }

  -- ---- operators

  unary_at : (m : Written) (o : UnaryOp) (k : Mark) (y : TypedTree) → RootFits world ((unary_form m o).node k (y ∷ [])) → Fit world y
      → Fit world ((unary_form m o).node k (y ∷ []))
  unary_at m o k y r i =
      let e = unary_node m o k (y ∷ []) in
      subst (Fit world) (sym e) (unary_fits world k o y (subst (RootFits world) e r) i)

  binary_at : (m : Written) (prior : Caps) (a c : Source) (o : BinaryOp) (k : Mark) (y z : TypedTree)
      → RootFits world ((binary_form s.env m prior a c o).node k (y ∷ z ∷ [])) → Fit world y → Fit world z
      → Fit world ((binary_form s.env m prior a c o).node k (y ∷ z ∷ []))
  binary_at m prior a c o k y z r i j =
      let e = binary_node s.env m prior a c o k (y ∷ z ∷ []) in
      subst (Fit world) (sym e) (binary_fits world k o y z (subst (RootFits world) e r) i (λ v. j))

  -- ---- all expressions whose slots are bound

  module _ (roots : (e : Source) → SlotsBound b e → (prior : Caps) (d : ℕ) → Known prior → Roots Known world (rules s e prior d)) where
    root_of : (e : Source) → SlotsBound b e → (prior : Caps) (d : ℕ) → Known prior → d ≤ max_nesting
        → Roots Known world (rules_within s e prior d)
    root_of e n prior d h w = inner d (rules_within s e prior d) w (roots e n prior d h)

    mutual
      fits_within : (e : Source) → SlotsBound b e → (prior : Caps) (d : ℕ) → Known prior → d ≤ max_nesting
          → Fits world (rules_within s e prior d)
      fits_within (lit m x) n prior d h w = leaf_fits _ m (λ k. lit k x) (λ k. lit_fits world k x) (root_of (lit m x) n prior d h w)
      fits_within (var m x) n prior d h w = leaf_fits _ m (λ k. var k x) (λ k. var_fits world k x) (root_of (var m x) n prior d h w)
      fits_within (slot m x) n prior d h w =
          leaf_fits _ m (λ k. slot k x) (λ k. slot_fits world k x) (root_of (slot m x) n prior d h w)
      fits_within (unknown m x) n prior d h w = unknown_all_fit x m
      fits_within (if_then_else m x y z) n prior d h w =
          if_all_fit Known nothing gather world s.env m (place_of x) (place_of x) _ _ prior h (agrees s x prior (d + 1)).marks
          (roots x n.0 prior (d + 1) h) (deeper (d + 1) (fits_within x n.0 prior (d + 1) h))
          (λ p k. deeper (d + 1) (fits_within y n.1 p (d + 1) k)) _ (deeper (d + 1) (fits_within z n.2 prior (d + 1) h))
          (root_of (if_then_else m x y z) n prior d h w)
      fits_within (and m x y) n prior d h w =
          and_all_fit Known nothing gather world s.env m (place_of x) (place_of y) _ _ prior h (agrees s x prior (d + 1)).marks
          (roots x n.0 prior (d + 1) h) (deeper (d + 1) (fits_within x n.0 prior (d + 1) h))
          (λ p k. deeper (d + 1) (fits_within y n.1 p (d + 1) k)) (root_of (and m x y) n prior d h w)
      fits_within (or m x y) n prior d h w =
          or_all_fit Known nothing gather world s.env m (place_of x) (place_of y) _ _ prior h (agrees s x prior (d + 1)).marks
          (roots x n.0 prior (d + 1) h) (deeper (d + 1) (fits_within x n.0 prior (d + 1) h))
          (λ p k. deeper (d + 1) (fits_within y n.1 p (d + 1) k)) (root_of (or m x y) n prior d h w)
      fits_within (unary m o x) n prior d h w =
          one_fits Known world s.env (unary_form m o) (place_of x) _ (unary_at m o)
          (deeper (d + 1) (fits_within x n prior (d + 1) h)) (root_of (unary m o x) n prior d h w)
      fits_within (binary m o x y) n prior d h w =
          two_fit Known world s.env (binary_form s.env m prior x y o) (place_of x) (place_of y) _ _ (binary_at m prior x y o)
          (deeper (d + 1) (fits_within x n.0 prior (d + 1) h)) (deeper (d + 1) (fits_within y n.1 prior (d + 1) h))
          (root_of (binary m o x y) n prior d h w)
      fits_within (call m f ts) n prior d h w =
          let g = call_form s.env s.functions m f (arguments ts) in
          row_fits Known world s.env g _ (λ k xs. call_fits world k f _)
          (operands_fit g.goes_on g.expects ts n prior (d + 1) h) (root_of (call m f ts) n prior d h w)
      fits_within (get_attr m x y) n prior d h w =
          one_fits Known world s.env (get_form s.env m prior x y) (place_of x) _ (λ k a. get_fits world k a y)
          (deeper (d + 1) (fits_within x n prior (d + 1) h)) (root_of (get_attr m x y) n prior d h w)
      fits_within (has_attr m x y) n prior d h w =
          one_fits Known world s.env (has_form s.env m prior x y) (place_of x) _ (λ k a. has_fits world k a y)
          (deeper (d + 1) (fits_within x n prior (d + 1) h)) (root_of (has_attr m x y) n prior d h w)
      fits_within (ext_has_attr m x y ys) n prior d h w =
          one_fits Known world s.env (chain_form s.env m prior x y ys) (place_of x) _ (λ k a. chain_fits world k a y ys)
          (deeper (d + 1) (fits_within x n prior (d + 1) h)) (root_of (ext_has_attr m x y ys) n prior d h w)
      fits_within (like m x p) n prior d h w =
          one_fits Known world s.env (like_form m p) (place_of x) _ (λ k a. like_fits world k a p)
          (deeper (d + 1) (fits_within x n prior (d + 1) h)) (root_of (like m x p) n prior d h w)
      fits_within (is_type m x p) n prior d h w =
          one_fits Known world s.env (is_form m p) (place_of x) _ (λ k a. is_fits world k a p)
          (deeper (d + 1) (fits_within x n prior (d + 1) h)) (root_of (is_type m x p) n prior d h w)
      fits_within (set_of m ts) n prior d h w =
          row_fits Known world s.env (set_form s.env m) _ (λ k xs. set_fits world k _)
          (operands_fit true [] ts n prior (d + 1) h) (root_of (set_of m ts) n prior d h w)
      fits_within (record_of m fs) n prior d h w =
          let i = values_fit fs n prior (d + 1) h in
          whole_fits Known world (record_form s.env m (field_keys fs)) _
          (λ k xs ds r. record_fits world k _ r (i.derivations xs ds)) (λ k g xs es ds r. record_fits world k _ r (i.givings g xs es ds))
          (root_of (record_of m fs) n prior d h w)

      operands_fit : (goes_on : Bool) (qs : List Expectation) (ts : Trees Written) → AllSlotsBound b ts → (prior : Caps) (d : ℕ)
          → Known prior → OperandsFit Known world s.env (rules_all s goes_on qs ts prior d)
      operands_fit goes_on qs no_trees n prior d h = no_operands_fit Known world s.env
      operands_fit goes_on qs (tree e ts) n prior d h =
          more_operands_fit Known world s.env goes_on _ (place_of e) _ _ (deeper d (fits_within e n.0 prior d h))
          (operands_fit goes_on (later_expectations qs) ts n.1 prior d h)

      values_fit : (fs : Fields Written) → FieldSlotsBound b fs → (prior : Caps) (d : ℕ) → Known prior
          → ValuesFit Known world s.env (field_keys fs) (rules_fields s fs prior d)
      values_fit no_fields n prior d h = no_values_fit Known world s.env
      values_fit (field k e fs) n prior d h =
          more_values_fit Known world s.env (place_of e) k (field_keys fs) _ _ (deeper d (fits_within e n.0 prior d h))
          (values_fit fs n.1 prior d h)

    pub copies_fit : (e : Source) → SlotsBound b e → (prior : Caps) (d : ℕ) → Known prior → Fits world (rules s e prior d)
    copies_fit e n prior d h = deeper d (fits_within e n prior d h)
