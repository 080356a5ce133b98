-- Typing makes one branch twice of an `if` whose test has the type True or False.
use Rattle.std.proofs.Common.{ℕ, ◌+◌, Bool, true, false, nat_lt, List, [], Option, Some, None, if◌then◌else◌}
use Rattle.cedar_types.specs.Errors.{Finding}
use Rattle.cedar_types.specs.Expressions.Tree.{lit, var, slot, unknown, if_then_else, and, or, unary, binary, call, get_attr, has_attr}
use Rattle.cedar_types.specs.Expressions.Tree.{ext_has_attr, like, is_type, set_of, record_of, Trees, no_trees, tree, Fields, no_fields}
use Rattle.cedar_types.specs.Expressions.Tree.{field}
use Rattle.cedar_types.specs.Expressions.View.{Written}
use Rattle.cedar_typing.specs.Capabilities.{Caps, no_caps}
use Rattle.cedar_typing.specs.Eager.{Expectation, first_expectation, later_expectations, Form}
use Rattle.cedar_typing.specs.Infer.{infer, infer_within, infer_all, infer_fields, unless_too_deep}
use Rattle.cedar_typing.specs.Infer.Conditional.{infer_branches}
use Rattle.cedar_typing.specs.Infer.Eager.{infer_none, infer_one_more, infer_one_operand, infer_two_operands}
use Rattle.cedar_typing.specs.Infer.Parts.{Part, AnswerAndErrors, expect, after}
use Rattle.cedar_typing.specs.Infer.ShortCircuit.{infer_right}
use Rattle.cedar_typing.specs.Judgments.{max_nesting}
use Rattle.cedar_typing.specs.PolicyCheck.{Verdict, irrelevant, SameVerdict, same_success, same_irrelevant, same_failure, verdict_if}
use Rattle.cedar_typing.specs.PolicyCheck.{part_verdict, policy_check}
use Rattle.cedar_typing.specs.Rules.Attributes.{has_form, get_form}
use Rattle.cedar_typing.specs.Rules.Binary.{binary_form}
use Rattle.cedar_typing.specs.Rules.Calls.{arguments, call_form}
use Rattle.cedar_typing.specs.Rules.Chains.{chain_form}
use Rattle.cedar_typing.specs.Rules.Records.{field_keys, record_form}
use Rattle.cedar_typing.specs.Rules.Sets.{set_form}
use Rattle.cedar_typing.specs.Rules.Leaves.{variable_type, slot_ty, type_of_literal}
use Rattle.cedar_typing.specs.Rules.ShortCircuit.{Connective, conjunction, disjunction}
use Rattle.cedar_typing.specs.Rules.Unary.{unary_form, like_form, is_form}
use Rattle.cedar_typing.specs.Setting.{Setting}
use Rattle.cedar_typing.specs.TypeTests.{bool_types, is_false, annotation_passes}
use Rattle.cedar_typing.specs.TypedExpr.{Source, TypedTree, Mark, annotation, place_of}
use Rattle.cedar_typing.proofs.Policies.Check.{checked}
use Rattle.cedar_typing.proofs.Policies.Verdicts.{verdict_at_most}
use Rattle.cedar_typechecker.specs.Levels.Laws.{VerdictIsShared, TypedBranchesAreShared}
use Rattle.cedar_typechecker.specs.Levels.Shared.{BranchesAreShared}
use Rattle.cedar_typechecker.proofs.Levels.TypedForms.{OperandsShared, first_shared, trees_shared, values_shared, KeepsShared, form_shared}
use Rattle.cedar_typechecker.proofs.Levels.TypedForms.{one_more_shared, unary_keeps, binary_keeps}
use Rattle.cedar_typechecker.proofs.Levels.TypedParts.{AnswerShared, PartShared, expected, gone_on, deep, branches_shared, right_shared}
use Rattle.cedar_typechecker.proofs.Levels.TypedParts.{leaf_shared}

-- ---- every expression

module _ (s : Setting) where
  abbrev Shares : Source → Type 0
  Shares e =
      (prior : Caps) (d : ℕ) (es : List Finding) → AnswerShared (infer_within s e prior d es).0

  -- an expression that may be too deep
  abbrev limited : Source → Caps → ℕ → List Finding → AnswerAndErrors
  limited e prior d es = unless_too_deep d es (infer_within s e prior d es)

  at_depth : (e : Source) → Shares e → (prior : Caps) (d : ℕ) (es : List Finding)
      → AnswerShared (limited e prior d es).0
  at_depth e h prior d es =
      deep (nat_lt max_nesting d) es (infer_within s e prior d es) (h prior d es)

  no_operands : (es : List Finding) → OperandsShared (infer_none es).0
  no_operands es = tt

  one_shared : (f : Form) (e : Source) (prior : Caps) (d : ℕ) (es : List Finding)
      → KeepsShared f → Shares e
      → AnswerShared (infer_one_operand s.env f (place_of e) (limited e prior d) es).0
  one_shared f e prior d es n h =
      let q = first_expectation f.expects in
      let o = infer_one_more s.env f.goes_on q (place_of e) (limited e prior d) infer_none es in
      form_shared f o.0 o.1 n
      (one_more_shared s.env f.goes_on q (place_of e) (limited e prior d) infer_none es
      (at_depth e h prior d) no_operands)

  two_shared : (f : Form) (a b : Source) (prior : Caps) (d : ℕ) (es : List Finding)
      → KeepsShared f → Shares a → Shares b
      → AnswerShared (infer_two_operands s.env f (place_of a) (place_of b) (limited a prior d)
      (limited b prior d) es).0
  two_shared f a b prior d es n h k =
      let q = first_expectation f.expects in
      let r = first_expectation (later_expectations f.expects) in
      let second = infer_one_more s.env f.goes_on r (place_of b) (limited b prior d) infer_none in
      let o = infer_one_more s.env f.goes_on q (place_of a) (limited a prior d) second es in
      form_shared f o.0 o.1 n
      (one_more_shared s.env f.goes_on q (place_of a) (limited a prior d) second es
      (at_depth a h prior d)
      (λ es'. one_more_shared s.env f.goes_on r (place_of b) (limited b prior d) infer_none es'
      (at_depth b k prior d) no_operands))

  connected_shared : (f : Connective) (m : Written) (a b : Source) (prior : Caps) (d : ℕ)
      (es : List Finding)
      → ((k : Mark) (x y : TypedTree) → BranchesAreShared x → BranchesAreShared y
      → BranchesAreShared (f.node k x y))
      → Shares a → Shares b
      → AnswerShared (after (expect s.env bool_types (place_of a) (limited a prior d es))
      (λ p es'. infer_right s.env f m (place_of b) prior p es' (λ known. limited b known d))).0
  connected_shared f m a b prior d es n h k =
      let o = limited a prior d es in
      let p = expect s.env bool_types (place_of a) o in
      let right : Caps → List Finding → AnswerAndErrors = λ known. limited b known d in
      gone_on p.0 p.1 (λ p es'. infer_right s.env f m (place_of b) prior p es' right)
      (expected s.env bool_types (place_of a) o (at_depth a h prior d es))
      (λ p es' i. right_shared s.env m f (place_of b) prior p es' right n i
      (λ known es''. at_depth b k known d es''))

  if_shared : (m : Written) (a b e : Source) (prior : Caps) (d : ℕ) (es : List Finding)
      → Shares a → Shares b → Shares e
      → AnswerShared (after (expect s.env bool_types (place_of a) (limited a prior d es))
      (λ p es'. infer_branches s.env m prior p es' (λ known. limited b known d)
      (limited e prior d))).0
  if_shared m a b e prior d es h k l =
      let o = limited a prior d es in
      let p = expect s.env bool_types (place_of a) o in
      let branch : Caps → List Finding → AnswerAndErrors = λ known. limited b known d in
      let otherwise : List Finding → AnswerAndErrors = limited e prior d in
      gone_on p.0 p.1 (λ p es'. infer_branches s.env m prior p es' branch otherwise)
      (expected s.env bool_types (place_of a) o (at_depth a h prior d es))
      (λ p es' i. branches_shared s.env m prior p es' branch otherwise i
      (λ known es''. at_depth b k known d es'') (at_depth e l prior d))

  mutual
    typed_shared : (e : Source) → Shares e
    typed_shared (lit m x) prior d es =
        leaf_shared (type_of_literal s.env x) m (λ k. lit k x) (λ k. tt)
    typed_shared (var m x) prior d es =
        leaf_shared (variable_type s.env x) m (λ k. var k x) (λ k. tt)
    typed_shared (slot m x) prior d es =
        leaf_shared (Some (slot_ty s.env.request_env x)) m (λ k. slot k x) (λ k. tt)
    typed_shared (unknown m n) prior d es = tt
    typed_shared (if_then_else m a b e) prior d es =
        if_shared m a b e prior (d + 1) es (typed_shared a) (typed_shared b) (typed_shared e)
    typed_shared (and m a b) prior d es =
        connected_shared conjunction m a b prior (d + 1) es (λ k x y h i. (h, i))
        (typed_shared a) (typed_shared b)
    typed_shared (or m a b) prior d es =
        connected_shared disjunction m a b prior (d + 1) es (λ k x y h i. (h, i))
        (typed_shared a) (typed_shared b)
    typed_shared (unary m o a) prior d es =
        one_shared (unary_form m o) a prior (d + 1) es (unary_keeps m o) (typed_shared a)
    typed_shared (binary m o a b) prior d es =
        two_shared (binary_form s.env m prior a b o) a b prior (d + 1) es
        (binary_keeps s.env m prior a b o) (typed_shared a) (typed_shared b)
    typed_shared (call m n ts) prior d es =
        let f = call_form s.env s.functions m n (arguments ts) in
        let o = infer_all s f.goes_on f.expects ts prior (d + 1) es in
        form_shared f o.0 o.1 (λ k xs h. trees_shared xs h)
        (listed_shared ts f.goes_on f.expects prior (d + 1) es)
    typed_shared (get_attr m e x) prior d es =
        one_shared (get_form s.env m prior e x) e prior (d + 1) es
        (λ k xs h. first_shared xs h) (typed_shared e)
    typed_shared (has_attr m e x) prior d es =
        one_shared (has_form s.env m prior e x) e prior (d + 1) es
        (λ k xs h. first_shared xs h) (typed_shared e)
    typed_shared (ext_has_attr m a x xs) prior d es =
        one_shared (chain_form s.env m prior a x xs) a prior (d + 1) es
        (λ k xs h. first_shared xs h) (typed_shared a)
    typed_shared (like m a p) prior d es =
        one_shared (like_form m p) a prior (d + 1) es (λ k xs h. first_shared xs h)
        (typed_shared a)
    typed_shared (is_type m a n) prior d es =
        one_shared (is_form m n) a prior (d + 1) es (λ k xs h. first_shared xs h)
        (typed_shared a)
    typed_shared (set_of m ts) prior d es =
        let f = set_form s.env m in
        let o = infer_all s f.goes_on f.expects ts prior (d + 1) es in
        form_shared f o.0 o.1 (λ k xs h. trees_shared xs h)
        (listed_shared ts f.goes_on f.expects prior (d + 1) es)
    typed_shared (record_of m fs) prior d es =
        let f = record_form s.env m (field_keys fs) in
        let o = infer_fields s fs prior (d + 1) es in
        form_shared f o.0 o.1 (λ k xs h. values_shared (field_keys fs) xs h)
        (fields_shared fs prior (d + 1) es)

    listed_shared : (ts : Trees Written) (goes_on : Bool) (qs : List Expectation) (prior : Caps)
        (d : ℕ) (es : List Finding)
        → OperandsShared (infer_all s goes_on qs ts prior d es).0
    listed_shared no_trees goes_on qs prior d es = tt
    listed_shared (tree e ts) goes_on qs prior d es =
        one_more_shared s.env goes_on (first_expectation qs) (place_of e) (limited e prior d)
        (infer_all s goes_on (later_expectations qs) ts prior d) es
        (at_depth e (typed_shared e) prior d)
        (λ es'. listed_shared ts goes_on (later_expectations qs) prior d es')

    fields_shared : (fs : Fields Written) (prior : Caps) (d : ℕ) (es : List Finding)
        → OperandsShared (infer_fields s fs prior d es).0
    fields_shared no_fields prior d es = tt
    fields_shared (field k e fs) prior d es =
        one_more_shared s.env false None (place_of e) (limited e prior d)
        (infer_fields s fs prior d) es (at_depth e (typed_shared e) prior d)
        (λ es'. fields_shared fs prior d es')

-- ---- the check of a condition

by_part : (o : Option Part) (es : List Finding) → PartShared o → VerdictIsShared (part_verdict o es)
by_part None es h = tt
by_part (Some p) es h = go (annotation_passes is_false (annotation p.tree)) p.succeeded
  where
    go : (b c : Bool) → VerdictIsShared (if b then irrelevant es p.tree else verdict_if c p.tree es)
    go true c = h
    go false true = h
    go false false = tt

same_shared : (u v : Verdict) → SameVerdict u v → VerdictIsShared u → VerdictIsShared v
same_shared u v same_success h = h
same_shared u v (same_irrelevant p) h = h
same_shared u v (same_failure p) h = h

pub typed_branches_are_shared : TypedBranchesAreShared
typed_branches_are_shared s e v c =
    let o = infer s e no_caps 1 [] in
    let p = expect s.env bool_types (place_of e) o in
    same_shared (policy_check s e) v (verdict_at_most s e (policy_check s e) v (checked s e) c)
    (by_part p.0 p.1 (expected s.env bool_types (place_of e) o
    (at_depth s e (typed_shared s e) no_caps 1 [])))
