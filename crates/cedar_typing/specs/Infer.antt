-- Inference: the rules as a function, which answers, and adds errors to those so far in its own
-- order.
use Rattle.std.specs.Prelude.{ℕ, ◌+◌, Bool, false, nat_lt, List, Some, None, if◌then◌else◌}
use Rattle.cedar_types.specs.Expressions.Tree.{lit, var, slot, unknown, if_then_else, and, or, unary, binary, call, get_attr, has_attr}
use Rattle.cedar_types.specs.Expressions.Tree.{ext_has_attr, like, is_type, set_of, record_of, Trees, no_trees, tree, Fields, no_fields}
use Rattle.cedar_types.specs.Expressions.Tree.{field}
use Rattle.cedar_types.specs.Expressions.View.{Written}
use Rattle.cedar_types.specs.Errors.{Finding}
use Rattle.cedar_typing.specs.Capabilities.{Caps}
use Rattle.cedar_typing.specs.Eager.{Expectation, first_expectation, later_expectations}
use Rattle.cedar_typing.specs.Infer.Conditional.{infer_branches}
use Rattle.cedar_typing.specs.Infer.Eager.{OperandsAndErrors, infer_none, infer_one_more, infer_eager, infer_one_operand}
use Rattle.cedar_typing.specs.Infer.Eager.{infer_two_operands, infer_operand_list}
use Rattle.cedar_typing.specs.Infer.Leaves.{infer_leaf, infer_unknown}
use Rattle.cedar_typing.specs.Infer.Parts.{limit, AnswerAndErrors, expect, after}
use Rattle.cedar_typing.specs.Infer.ShortCircuit.{infer_right}
use Rattle.cedar_typing.specs.Judgments.{max_nesting}
use Rattle.cedar_typing.specs.Rules.Attributes.{has_form, get_form}
use Rattle.cedar_typing.specs.Rules.Binary.{binary_form}
use Rattle.cedar_typing.specs.Rules.Calls.{arguments, call_form}
use Rattle.cedar_typing.specs.Rules.Chains.{chain_form}
use Rattle.cedar_typing.specs.Rules.Records.{field_keys, record_form}
use Rattle.cedar_typing.specs.Rules.Sets.{set_form}
use Rattle.cedar_typing.specs.Rules.Leaves.{variable_type, slot_ty, type_of_literal}
use Rattle.cedar_typing.specs.Rules.ShortCircuit.{conjunction, disjunction}
use Rattle.cedar_typing.specs.Rules.Unary.{unary_form, like_form, is_form}
use Rattle.cedar_typing.specs.Setting.{Setting}
use Rattle.cedar_typing.specs.TypeTests.{bool_types}
use Rattle.cedar_typing.specs.TypedExpr.{Source, place_of}
pub mod Parts
pub mod Leaves
pub mod ShortCircuit
pub mod Conditional
pub mod Eager

-- the test of the limit, before an expression is visited
abbrev pub unless_too_deep : ℕ → List Finding → AnswerAndErrors → AnswerAndErrors
unless_too_deep d es o = if nat_lt max_nesting d then (limit, es) else o

abbrev mutual
  -- inference of an expression at depth d, which is within the limit, with the prior capabilities,
  -- after the errors es; its parts stand one deeper
  pub infer_within : Setting → Source → Caps → ℕ → List Finding → AnswerAndErrors
  infer_within s (lit m x) prior d es = (infer_leaf (type_of_literal s.env x) m (λ k. lit k x), es)
  infer_within s (var m x) prior d es = (infer_leaf (variable_type s.env x) m (λ k. var k x), es)
  infer_within s (slot m x) prior d es =
      (infer_leaf (Some (slot_ty s.env.request_env x)) m (λ k. slot k x), es)
  infer_within s (unknown m n) prior d es = (infer_unknown n m, es)
  infer_within s (if_then_else m a b e) prior d es =
      after (expect s.env bool_types (place_of a)
      (unless_too_deep (d + 1) es (infer_within s a prior (d + 1) es)))
      (λ p es'. infer_branches s.env m prior p es'
      (λ known es''. unless_too_deep (d + 1) es'' (infer_within s b known (d + 1) es''))
      (λ es''. unless_too_deep (d + 1) es'' (infer_within s e prior (d + 1) es'')))
  infer_within s (and m a b) prior d es =
      after (expect s.env bool_types (place_of a)
      (unless_too_deep (d + 1) es (infer_within s a prior (d + 1) es)))
      (λ p es'. infer_right s.env conjunction m (place_of b) prior p es'
      (λ known es''. unless_too_deep (d + 1) es'' (infer_within s b known (d + 1) es'')))
  infer_within s (or m a b) prior d es =
      after (expect s.env bool_types (place_of a)
      (unless_too_deep (d + 1) es (infer_within s a prior (d + 1) es)))
      (λ p es'. infer_right s.env disjunction m (place_of b) prior p es'
      (λ known es''. unless_too_deep (d + 1) es'' (infer_within s b known (d + 1) es'')))
  infer_within s (unary m o a) prior d es =
      infer_one_operand s.env (unary_form m o) (place_of a)
      (λ es'. unless_too_deep (d + 1) es' (infer_within s a prior (d + 1) es')) es
  infer_within s (binary m o a b) prior d es =
      infer_two_operands s.env (binary_form s.env m prior a b o) (place_of a) (place_of b)
      (λ es'. unless_too_deep (d + 1) es' (infer_within s a prior (d + 1) es'))
      (λ es'. unless_too_deep (d + 1) es' (infer_within s b prior (d + 1) es')) es
  infer_within s (call m n ts) prior d es =
      infer_operand_list (call_form s.env s.functions m n (arguments ts))
      (λ goes_on qs. infer_all s goes_on qs ts prior (d + 1)) es
  infer_within s (get_attr m e x) prior d es =
      infer_one_operand s.env (get_form s.env m prior e x) (place_of e)
      (λ es'. unless_too_deep (d + 1) es' (infer_within s e prior (d + 1) es')) es
  infer_within s (has_attr m e x) prior d es =
      infer_one_operand s.env (has_form s.env m prior e x) (place_of e)
      (λ es'. unless_too_deep (d + 1) es' (infer_within s e prior (d + 1) es')) es
  infer_within s (ext_has_attr m a x xs) prior d es =
      infer_one_operand s.env (chain_form s.env m prior a x xs) (place_of a)
      (λ es'. unless_too_deep (d + 1) es' (infer_within s a prior (d + 1) es')) es
  infer_within s (like m a p) prior d es =
      infer_one_operand s.env (like_form m p) (place_of a)
      (λ es'. unless_too_deep (d + 1) es' (infer_within s a prior (d + 1) es')) es
  infer_within s (is_type m a n) prior d es =
      infer_one_operand s.env (is_form m n) (place_of a)
      (λ es'. unless_too_deep (d + 1) es' (infer_within s a prior (d + 1) es')) es
  infer_within s (set_of m ts) prior d es =
      infer_operand_list (set_form s.env m)
      (λ goes_on qs. infer_all s goes_on qs ts prior (d + 1)) es
  infer_within s (record_of m fs) prior d es =
      infer_eager (record_form s.env m (field_keys fs)) (infer_fields s fs prior (d + 1)) es

  -- inference of expressions one after another, each at depth d, with these expectations
  pub infer_all : Setting → Bool → List Expectation → Trees Written → Caps → ℕ → List Finding
      → OperandsAndErrors
  infer_all s goes_on qs no_trees prior d es = infer_none es
  infer_all s goes_on qs (tree e ts) prior d es =
      infer_one_more s.env goes_on (first_expectation qs) (place_of e)
      (λ es'. unless_too_deep d es' (infer_within s e prior d es'))
      (infer_all s goes_on (later_expectations qs) ts prior d) es

  -- inference of the values of fields, one after another
  pub infer_fields : Setting → Fields Written → Caps → ℕ → List Finding → OperandsAndErrors
  infer_fields s no_fields prior d es = infer_none es
  infer_fields s (field k e fs) prior d es =
      infer_one_more s.env false None (place_of e)
      (λ es'. unless_too_deep d es' (infer_within s e prior d es'))
      (infer_fields s fs prior d) es

-- inference of an expression at depth d, with the prior capabilities, after the errors es
abbrev pub infer : Setting → Source → Caps → ℕ → List Finding → AnswerAndErrors
infer s e prior d es = unless_too_deep d es (infer_within s e prior d es)
