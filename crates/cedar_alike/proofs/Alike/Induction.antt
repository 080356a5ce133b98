-- Inference gives one answer in two environments that agree on all variables and slots of an expression.
use Rattle.std.proofs.Common.{◌≡◌, ℕ, ◌+◌, inl, Bool, false, List, ◌++◌, None, Some, refl}
use Rattle.cedar_types.specs.Environments.RequestEnvs.{Env}
use Rattle.cedar_types.specs.Errors.{Finding}
use Rattle.cedar_types.specs.Expressions.Parts.{subexpressions, subexpressions_of_all, subexpressions_of_fields}
use Rattle.cedar_types.specs.Expressions.Tree.{Lit, bool, long, string, entity, lit, var, slot, unknown, if_then_else, and, or, unary}
use Rattle.cedar_types.specs.Expressions.Tree.{binary, call, get_attr, has_attr, ext_has_attr, like, is_type, set_of, record_of, Trees}
use Rattle.cedar_types.specs.Expressions.Tree.{no_trees, tree, Fields, no_fields, field}
use Rattle.cedar_types.specs.Expressions.View.{Written}
use Rattle.cedar_typing.specs.Capabilities.{Caps}
use Rattle.cedar_typing.specs.Composition.{in_env}
use Rattle.cedar_typing.specs.Eager.{Expectation, first_expectation, later_expectations}
use Rattle.cedar_typing.specs.Infer.{unless_too_deep, infer_within, infer_all, infer_fields}
use Rattle.cedar_typing.specs.Infer.Eager.{infer_eager}
use Rattle.cedar_typing.specs.Infer.Leaves.{infer_leaf}
use Rattle.cedar_typing.specs.Infer.Parts.{AnswerAndErrors, expect, after}
use Rattle.cedar_typing.specs.Infer.ShortCircuit.{infer_right}
use Rattle.cedar_typing.specs.Rules.Calls.{arguments}
use Rattle.cedar_typing.specs.Rules.Leaves.{type_of_literal}
use Rattle.cedar_typing.specs.Rules.Records.{field_keys}
use Rattle.cedar_typing.specs.Rules.ShortCircuit.{Connective, conjunction, disjunction}
use Rattle.cedar_typing.specs.Rules.Unary.{unary_form, like_form, is_form}
use Rattle.cedar_typing.specs.Setting.{Setting}
use Rattle.cedar_typing.specs.TypeTests.{bool_types}
use Rattle.cedar_typing.specs.TypedExpr.{Source, place_of}
use Rattle.cedar_typing.proofs.Composition.SameForms.{expect_same, more_same, one_same, two_same, right_same, branches_same}
use Rattle.cedar_typing.proofs.Composition.SameForms.{has_form_same, get_form_same, chain_form_same, call_form_same, set_form_same}
use Rattle.cedar_typing.proofs.Composition.SameForms.{record_form_same}
use Rattle.cedar_alike.specs.Reads.{AgreeOn}
use Rattle.cedar_alike.proofs.Alike.Agreement.{AgreeOver, over_parts, later, left, right, variable_typed, literal_same, ancestors_same}
use Rattle.cedar_alike.proofs.Alike.Operators.{binary_same}

-- inference of `&&` or `||` by the inference of its two sides
abbrev sides : Setting → Connective → Written → Source → Source → Caps → ℕ → List Finding → AnswerAndErrors
sides t f m a b prior k es =
    after (expect t.env bool_types (place_of a) (unless_too_deep (k + 1) es (infer_within t a prior (k + 1) es)))
    (λ q es'. infer_right t.env f m (place_of b) prior q es'
    (λ known es''. unless_too_deep (k + 1) es'' (infer_within t b known (k + 1) es'')))

module _ (s : Setting) (here elsewhere : Env) where
  abbrev s1 : Setting
  s1 = in_env s here

  abbrev s2 : Setting
  s2 = in_env s elsewhere

  abbrev Agree : List Source → Type 0
  Agree = AgreeOver here elsewhere

  literal_typed : (x : Lit) → type_of_literal s1.env x ≡ type_of_literal s2.env x
  literal_typed (bool b) = refl
  literal_typed (long n) = refl
  literal_typed (string t) = refl
  literal_typed (entity u) = refl

  pub sides_same : (f : Connective) (m : Written) (a b : Source) (prior : Caps) (k : ℕ)
      → infer_within s1 a prior (k + 1) ≡ infer_within s2 a prior (k + 1)
      → ((known : Caps) → infer_within s1 b known (k + 1) ≡ infer_within s2 b known (k + 1))
      → sides s1 f m a b prior k ≡ sides s2 f m a b prior k
  sides_same f m a b prior k of_a of_b =
      λ i es. after (expect_same s here elsewhere bool_types (place_of a) (unless_too_deep (k + 1) es (of_a i es)) i)
      (λ q es'. right_same s here elsewhere f m (place_of b) prior q es'
      (λ known es''. unless_too_deep (k + 1) es'' (of_b known i es'')) i)

  mutual
    same_within : (e : Source) → Agree (subexpressions e) → (prior : Caps) (k : ℕ) → infer_within s1 e prior k ≡ infer_within s2 e prior k
    same_within (lit m x) h prior k = λ i es. (infer_leaf (literal_typed x i) m (λ q. lit q x), es)
    same_within (var m x) h prior k =
        let t = variable_typed here elsewhere s x (h.variables m x (inl refl)) in
        λ i es. (infer_leaf (t i) m (λ q. var q x), es)
    same_within (slot m x) h prior k =
        let t = h.slots m x (inl refl) in
        λ i es. (infer_leaf (Some (t i)) m (λ q. slot q x), es)
    same_within (unknown m n) h prior k = refl
    same_within (if_then_else m a b c) h prior k =
        let g = later here elsewhere (if_then_else m a b c) (subexpressions c ++ (subexpressions b ++ subexpressions a)) h in
        let j = right here elsewhere (subexpressions c) (subexpressions b ++ subexpressions a) g in
        let ha = right here elsewhere (subexpressions b) (subexpressions a) j in
        let hb = left here elsewhere (subexpressions b) (subexpressions a) j in
        let hc = left here elsewhere (subexpressions c) (subexpressions b ++ subexpressions a) g in
        λ i es. after (expect_same s here elsewhere bool_types (place_of a)
        (unless_too_deep (k + 1) es (same_within a ha prior (k + 1) i es)) i)
        (λ q es'. branches_same s here elsewhere m prior q es'
        (λ known es''. unless_too_deep (k + 1) es'' (same_within b hb known (k + 1) i es''))
        (λ es''. unless_too_deep (k + 1) es'' (same_within c hc prior (k + 1) i es'')) i)
    same_within (and m a b) h prior k =
        let g = later here elsewhere (and m a b) (subexpressions b ++ subexpressions a) h in
        sides_same conjunction m a b prior k
        (same_within a (right here elsewhere (subexpressions b) (subexpressions a) g) prior (k + 1))
        (λ known. same_within b (left here elsewhere (subexpressions b) (subexpressions a) g) known (k + 1))
    same_within (or m a b) h prior k =
        let g = later here elsewhere (or m a b) (subexpressions b ++ subexpressions a) h in
        sides_same disjunction m a b prior k
        (same_within a (right here elsewhere (subexpressions b) (subexpressions a) g) prior (k + 1))
        (λ known. same_within b (left here elsewhere (subexpressions b) (subexpressions a) g) known (k + 1))
    same_within (unary m o a) h prior k =
        let g = later here elsewhere (unary m o a) (subexpressions a) h in
        λ i. one_same s here elsewhere (unary_form m o) (place_of a)
        (λ es. unless_too_deep (k + 1) es (same_within a g prior (k + 1) i es)) i
    same_within (binary m o a b) h prior k =
        let g = later here elsewhere (binary m o a b) (subexpressions b ++ subexpressions a) h in
        let ha = right here elsewhere (subexpressions b) (subexpressions a) g in
        let hb = left here elsewhere (subexpressions b) (subexpressions a) g in
        let f = binary_same s here elsewhere m prior a b o (literal_same here elsewhere a ha) (literal_same here elsewhere b hb) (ancestors_same here elsewhere b hb) in
        λ i. two_same s here elsewhere (f i) (place_of a) (place_of b)
        (λ es. unless_too_deep (k + 1) es (same_within a ha prior (k + 1) i es))
        (λ es. unless_too_deep (k + 1) es (same_within b hb prior (k + 1) i es)) i
    same_within (call m n ts) h prior k =
        let g = later here elsewhere (call m n ts) (subexpressions_of_all ts) h in
        let f = call_form_same s here elsewhere m n (arguments ts) in
        λ i. infer_eager (f i) (same_all (f i).goes_on (f i).expects ts g prior (k + 1) i)
    same_within (get_attr m a x) h prior k =
        let g = later here elsewhere (get_attr m a x) (subexpressions a) h in
        λ i. one_same s here elsewhere (get_form_same s here elsewhere m prior a x i) (place_of a)
        (λ es. unless_too_deep (k + 1) es (same_within a g prior (k + 1) i es)) i
    same_within (has_attr m a x) h prior k =
        let g = later here elsewhere (has_attr m a x) (subexpressions a) h in
        λ i. one_same s here elsewhere (has_form_same s here elsewhere m prior a x i) (place_of a)
        (λ es. unless_too_deep (k + 1) es (same_within a g prior (k + 1) i es)) i
    same_within (ext_has_attr m a x xs) h prior k =
        let g = later here elsewhere (ext_has_attr m a x xs) (subexpressions a) h in
        λ i. one_same s here elsewhere (chain_form_same s here elsewhere m prior a x xs i) (place_of a)
        (λ es. unless_too_deep (k + 1) es (same_within a g prior (k + 1) i es)) i
    same_within (like m a q) h prior k =
        let g = later here elsewhere (like m a q) (subexpressions a) h in
        λ i. one_same s here elsewhere (like_form m q) (place_of a)
        (λ es. unless_too_deep (k + 1) es (same_within a g prior (k + 1) i es)) i
    same_within (is_type m a n) h prior k =
        let g = later here elsewhere (is_type m a n) (subexpressions a) h in
        λ i. one_same s here elsewhere (is_form m n) (place_of a)
        (λ es. unless_too_deep (k + 1) es (same_within a g prior (k + 1) i es)) i
    same_within (set_of m ts) h prior k =
        let g = later here elsewhere (set_of m ts) (subexpressions_of_all ts) h in
        let f = set_form_same s here elsewhere m in
        λ i. infer_eager (f i) (same_all (f i).goes_on (f i).expects ts g prior (k + 1) i)
    same_within (record_of m fs) h prior k =
        let g = later here elsewhere (record_of m fs) (subexpressions_of_fields fs) h in
        λ i. infer_eager (record_form_same s here elsewhere m (field_keys fs) i) (same_fields fs g prior (k + 1) i)

    same_all : (goes_on : Bool) (qs : List Expectation) (ts : Trees Written) → Agree (subexpressions_of_all ts)
        → (prior : Caps) (k : ℕ) → infer_all s1 goes_on qs ts prior k ≡ infer_all s2 goes_on qs ts prior k
    same_all goes_on qs no_trees h prior k = refl
    same_all goes_on qs (tree e ts) h prior k =
        let he = right here elsewhere (subexpressions_of_all ts) (subexpressions e) h in
        let hs = left here elsewhere (subexpressions_of_all ts) (subexpressions e) h in
        λ i. more_same s here elsewhere goes_on (first_expectation qs) (place_of e)
        (λ es. unless_too_deep k es (same_within e he prior k i es))
        (same_all goes_on (later_expectations qs) ts hs prior k i) i

    same_fields : (fs : Fields Written) → Agree (subexpressions_of_fields fs) → (prior : Caps) (k : ℕ)
        → infer_fields s1 fs prior k ≡ infer_fields s2 fs prior k
    same_fields no_fields h prior k = refl
    same_fields (field n e fs) h prior k =
        let he = right here elsewhere (subexpressions_of_fields fs) (subexpressions e) h in
        let hs = left here elsewhere (subexpressions_of_fields fs) (subexpressions e) h in
        λ i. more_same s here elsewhere false None (place_of e)
        (λ es. unless_too_deep k es (same_within e he prior k i es)) (same_fields fs hs prior k i) i

  pub same_expression : (e : Source) → AgreeOn here elsewhere e → (prior : Caps) (k : ℕ) → infer_within s1 e prior k ≡ infer_within s2 e prior k
  same_expression e h = same_within e (over_parts here elsewhere e h)
