-- Inference answers exactly as the rules do, for all expressions.
use Rattle.std.proofs.Common.{◌≡◌, ℕ, ◌+◌, ◌≤◌, ◌<◌, Bool, true, false, nat_lt, List, [], ◌++◌, Some, None, refl, sym, subst, ◌∙◌, ap}
use Rattle.std.proofs.Common.{arith, append-nil}
use Rattle.std.specs.Prelude.{if◌then◌else◌}
use Rattle.std.proofs.lemmas.Grind.{common_steps}
use Rattle.cedar_types.specs.Expressions.Tree.{lit, var, slot, unknown, if_then_else, and, or, unary, binary, call, get_attr, has_attr}
use Rattle.cedar_types.specs.Expressions.Tree.{ext_has_attr, like, is_type, set_of, record_of, Trees, no_trees, tree, Fields, no_fields}
use Rattle.cedar_types.specs.Expressions.Tree.{field}
use Rattle.cedar_types.specs.Expressions.View.{Written}
use Rattle.cedar_types.specs.Errors.{Finding}
use Rattle.cedar_typing.specs.Capabilities.{Caps}
use Rattle.cedar_typing.specs.Eager.{Expectation, first_expectation, later_expectations}
use Rattle.cedar_typing.specs.Infer.{unless_too_deep, infer, infer_within, infer_all, infer_fields}
use Rattle.cedar_typing.specs.Infer.Parts.{Answer, limit, AnswerAndErrors}
use Rattle.cedar_typing.specs.Judgments.{Judgment, max_nesting, too_deep, by_part, visited}
use Rattle.cedar_typing.specs.Rules.{rules, rules_within, rules_all, rules_fields}
use Rattle.cedar_typing.specs.Rules.Attributes.{has_form, get_form}
use Rattle.cedar_typing.specs.Rules.Binary.{binary_form}
use Rattle.cedar_typing.specs.Rules.Calls.{arguments, call_form}
use Rattle.cedar_typing.specs.Rules.Chains.{chain_form}
use Rattle.cedar_typing.specs.Rules.Records.{field_keys, record_form}
use Rattle.cedar_typing.specs.Rules.Sets.{set_form}
use Rattle.cedar_typing.specs.Rules.Leaves.{variable_type, slot_ty, type_of_literal}
use Rattle.cedar_typing.specs.Rules.ShortCircuit.{conjunction, disjunction}
use Rattle.cedar_typing.specs.Rules.Unary.{unary_form, like_form, is_form}
use Rattle.cedar_typing.specs.Setting.{Setting}
use Rattle.cedar_typing.specs.TypedExpr.{Source, place_of}
use Rattle.cedar_typing.proofs.Agreement.Conditional.{if_agrees}
use Rattle.cedar_typing.proofs.Agreement.Eager.{AllAgree, none_agrees, more_agree, form_agrees, one_operand_agrees, two_operands_agree}
use Rattle.cedar_typing.proofs.Agreement.Leaves.{leaf_agrees, unknown_agrees}
use Rattle.cedar_typing.proofs.Agreement.Operators.{unary_marked, binary_marked}
use Rattle.cedar_typing.proofs.Agreement.Parts.{Answers, a_derived, a_recovered, a_cut, Found, Agrees}
use Rattle.cedar_typing.proofs.Agreement.ShortCircuit.{short_circuit_agrees}

-- ---- the limit

within_limit : (d : ℕ) → nat_lt max_nesting d ≡ false → d ≤ max_nesting
within_limit d h = grind (arith, common_steps)

past_limit : (d : ℕ) → nat_lt max_nesting d ≡ true → max_nesting < d
past_limit d h = grind (arith, common_steps)

is_within : (d : ℕ) → d ≤ max_nesting → nat_lt max_nesting d ≡ false
is_within d h = grind (arith, common_steps)

is_past : (d : ℕ) → max_nesting < d → nat_lt max_nesting d ≡ true
is_past d h = grind (arith, common_steps)

pub below_limit : (d : ℕ) (es : List Finding) (o : AnswerAndErrors) → d ≤ max_nesting → unless_too_deep d es o ≡ o
below_limit d es o h = rw (is_within d h) refl

-- a statement on inference of a known form within the limit holds of inference of an expression of
-- that form
pub infer_as : (P : AnswerAndErrors → Type 0) (s : Setting) (prior : Caps) (d : ℕ)
    (es : List Finding) {e tree : Source} → d ≤ max_nesting → e ≡ tree → P (infer_within s tree prior d es)
    → P (infer s e prior d es)
infer_as P s prior d es within is so = subst P (sym (below_limit d es _ within)) (subst (λ x. P (infer_within s x prior d es)) (sym is) so)

module _ (d : ℕ) (J : Judgment) where
  within_answer : (a : Answer) (es : List Finding) → d ≤ max_nesting → Answers J a es → Answers (visited d J) a es
  within_answer a es h (a_derived s) = a_derived (h, s)
  within_answer a es h (a_recovered r) = a_recovered (h, r)
  within_answer a es h (a_cut c) = a_cut (by_part h c)

  within_by : (b : Bool) (es : List Finding) (o : AnswerAndErrors) → nat_lt max_nesting d ≡ b → Found J o es
      → Found (visited d J) (if b then (limit, es) else o) es
  within_by true es o h f =
      record {
        answer = limit;
        added = [];
        is = ap (λ l. (limit, l)) (sym (append-nil es));
        rules =
            a_cut (too_deep (past_limit d h));
      }
  within_by false es o h f =
      record {
        answer = f.answer;
        added = f.added;
        is = f.is;
        rules =
            within_answer f.answer f.added (within_limit d h) f.rules;
      }

  below : (v : List Finding → AnswerAndErrors) (es : List Finding) → d ≤ max_nesting → unless_too_deep d es (v es) ≡ v es
  below v es h = rw (is_within d h) refl

  within_only : (v : List Finding → AnswerAndErrors) → Agrees v J → (es : List Finding) (a : Answer)
      (added : List Finding) → Answers (visited d J) a added → unless_too_deep d es (v es) ≡ (a, es ++ added)
  within_only v j es a added (a_derived (h, s)) = below v es h ∙ j.only es _ _ (a_derived s)
  within_only v j es a added (a_recovered (h, r)) = below v es h ∙ j.only es _ _ (a_recovered r)
  within_only v j es a added (a_cut (by_part h c)) = below v es h ∙ j.only es _ _ (a_cut c)
  within_only v j es a added (a_cut (too_deep h)) = rw (is_past d h) (ap (λ l. (limit, l)) (sym (append-nil es)))

  within_agrees : (v : List Finding → AnswerAndErrors) → Agrees v J → Agrees (λ es. unless_too_deep d es (v es)) (visited d J)
  within_agrees v j =
      record {
        found = λ es. within_by (nat_lt max_nesting d) es (v es) refl (j.found es);
        only = within_only v j;
        marks = λ t c e h. j.marks t c e h.1;
      }

-- ---- all expressions

mutual
  pub agrees_within : (s : Setting) (e : Source) (prior : Caps) (d : ℕ) → Agrees (infer_within s e prior d) (rules_within s e prior d)
  agrees_within s (lit m x) prior d = leaf_agrees m (λ k. lit k x) (λ k. refl) (type_of_literal s.env x)
  agrees_within s (var m x) prior d = leaf_agrees m (λ k. var k x) (λ k. refl) (variable_type s.env x)
  agrees_within s (slot m x) prior d = leaf_agrees m (λ k. slot k x) (λ k. refl) (Some (slot_ty s.env.request_env x))
  agrees_within s (unknown m n) prior d = unknown_agrees n m
  agrees_within s (if_then_else m a b e) prior d =
      if_agrees s.env m (place_of a) _ _ _ prior (infer s a prior (d + 1)) (λ p. infer s b p (d + 1))
      (infer s e prior (d + 1)) (within_agrees (d + 1) _ _ (agrees_within s a prior (d + 1)))
      (λ p. within_agrees (d + 1) _ _ (agrees_within s b p (d + 1)))
      (within_agrees (d + 1) _ _ (agrees_within s e prior (d + 1)))
  agrees_within s (and m a b) prior d =
      short_circuit_agrees s.env conjunction (λ k x y. refl) m (place_of a) (place_of b) _ _ prior
      (infer s a prior (d + 1)) (λ p. infer s b p (d + 1))
      (within_agrees (d + 1) _ _ (agrees_within s a prior (d + 1)))
      (λ p. within_agrees (d + 1) _ _ (agrees_within s b p (d + 1)))
  agrees_within s (or m a b) prior d =
      short_circuit_agrees s.env disjunction (λ k x y. refl) m (place_of a) (place_of b) _ _ prior
      (infer s a prior (d + 1)) (λ p. infer s b p (d + 1))
      (within_agrees (d + 1) _ _ (agrees_within s a prior (d + 1)))
      (λ p. within_agrees (d + 1) _ _ (agrees_within s b p (d + 1)))
  agrees_within s (unary m o a) prior d =
      one_operand_agrees s.env (unary_form m o) (unary_marked m o) (place_of a) _ (infer s a prior (d + 1))
      (within_agrees (d + 1) _ _ (agrees_within s a prior (d + 1)))
  agrees_within s (binary m o a b) prior d =
      two_operands_agree s.env (binary_form s.env m prior a b o) (binary_marked s.env m prior a b o) (place_of a)
      (place_of b) _ _ (infer s a prior (d + 1)) (infer s b prior (d + 1))
      (within_agrees (d + 1) _ _ (agrees_within s a prior (d + 1))) (within_agrees (d + 1) _ _ (agrees_within s b prior (d + 1)))
  agrees_within s (call m n ts) prior d =
      let f = call_form s.env s.functions m n (arguments ts) in
      form_agrees f (λ k xs. refl) _ _ (agrees_all s f.goes_on f.expects ts prior (d + 1))
  agrees_within s (get_attr m e x) prior d =
      one_operand_agrees s.env (get_form s.env m prior e x) (λ k xs. refl) (place_of e) _ (infer s e prior (d + 1))
      (within_agrees (d + 1) _ _ (agrees_within s e prior (d + 1)))
  agrees_within s (has_attr m e x) prior d =
      one_operand_agrees s.env (has_form s.env m prior e x) (λ k xs. refl) (place_of e) _ (infer s e prior (d + 1))
      (within_agrees (d + 1) _ _ (agrees_within s e prior (d + 1)))
  agrees_within s (ext_has_attr m a x xs) prior d =
      one_operand_agrees s.env (chain_form s.env m prior a x xs) (λ k ys. refl) (place_of a)
      _ (infer s a prior (d + 1)) (within_agrees (d + 1) _ _ (agrees_within s a prior (d + 1)))
  agrees_within s (like m a p) prior d =
      one_operand_agrees s.env (like_form m p) (λ k xs. refl) (place_of a) _ (infer s a prior (d + 1))
      (within_agrees (d + 1) _ _ (agrees_within s a prior (d + 1)))
  agrees_within s (is_type m a n) prior d =
      one_operand_agrees s.env (is_form m n) (λ k xs. refl) (place_of a) _ (infer s a prior (d + 1))
      (within_agrees (d + 1) _ _ (agrees_within s a prior (d + 1)))
  agrees_within s (set_of m ts) prior d =
      let f = set_form s.env m in
      form_agrees f (λ k xs. refl) _ _ (agrees_all s f.goes_on f.expects ts prior (d + 1))
  agrees_within s (record_of m fs) prior d =
      form_agrees (record_form s.env m (field_keys fs)) (λ k xs. refl) _ _ (agrees_fields s fs prior (d + 1))

  -- expressions one after another are inferred by their rules
  pub agrees_all : (s : Setting) (goes_on : Bool) (qs : List Expectation) (ts : Trees Written) (prior : Caps)
      (d : ℕ) → AllAgree (infer_all s goes_on qs ts prior d) (rules_all s goes_on qs ts prior d)
  agrees_all s goes_on qs no_trees prior d = none_agrees
  agrees_all s goes_on qs (tree e ts) prior d =
      more_agree s.env goes_on (first_expectation qs) (place_of e) _ (infer s e prior d)
      (within_agrees d _ _ (agrees_within s e prior d))
      _ _ (agrees_all s goes_on (later_expectations qs) ts prior d)

  -- the values of fields are inferred by their rules
  pub agrees_fields : (s : Setting) (fs : Fields Written) (prior : Caps) (d : ℕ)
      → AllAgree (infer_fields s fs prior d) (rules_fields s fs prior d)
  agrees_fields s no_fields prior d = none_agrees
  agrees_fields s (field k e fs) prior d =
      more_agree s.env false None (place_of e) _ (infer s e prior d)
      (within_agrees d _ _ (agrees_within s e prior d)) _ _ (agrees_fields s fs prior d)

pub agrees : (s : Setting) (e : Source) (prior : Caps) (d : ℕ) → Agrees (infer s e prior d) (rules s e prior d)
agrees s e prior d = within_agrees d _ _ (agrees_within s e prior d)
