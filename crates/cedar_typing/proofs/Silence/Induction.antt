-- Each failure has an error: all expressions.
use Rattle.std.proofs.Common.{◌≡◌, ℕ, zero, ◌+◌, Bool, true, false, List, [], ◌∷◌, ◌++◌, Option, Some, None, if◌then◌else◌, true≢false, refl}
use Rattle.cedar_types.specs.declared.base.expressions.operators.Var.{Var}
use Rattle.cedar_types.specs.Errors.{Finding}
use Rattle.cedar_types.specs.Types.Lookups.{declares_entity}
use Rattle.cedar_types.specs.Expressions.Parts.{subexpressions, subexpressions_of_all, subexpressions_of_fields}
use Rattle.cedar_types.specs.Expressions.Tree.{Lit, bool, long, string, entity, lit, var, slot, unknown, if_then_else, and, or, unary}
use Rattle.cedar_types.specs.Expressions.Tree.{binary, call, get_attr, has_attr, ext_has_attr, like, is_type, set_of, record_of, Trees}
use Rattle.cedar_types.specs.Expressions.Tree.{no_trees, tree, Fields, no_fields, field}
use Rattle.cedar_types.specs.Types.Bounds.{is_strict}
use Rattle.cedar_types.specs.Types.{Ty, TEntity}
use Rattle.cedar_types.specs.Expressions.View.{Written}
use Rattle.cedar_typing.specs.Capabilities.{Caps}
use Rattle.cedar_typing.specs.Eager.{Expectation, first_expectation, later_expectations}
use Rattle.cedar_typing.specs.Judgments.{Judgment, visited}
use Rattle.cedar_typing.specs.Rules.{rules, rules_within, rules_all, rules_fields}
use Rattle.cedar_typing.specs.Rules.Attributes.{has_form, get_form}
use Rattle.cedar_typing.specs.Rules.Binary.{binary_form}
use Rattle.cedar_typing.specs.Rules.Calls.{arguments, call_form}
use Rattle.cedar_typing.specs.Rules.Chains.{chain_form}
use Rattle.cedar_typing.specs.Rules.Records.{field_keys, record_form}
use Rattle.cedar_typing.specs.Rules.Sets.{set_form}
use Rattle.cedar_typing.specs.Rules.Leaves.{LeafRecovery, leaf_missing, leaf_rules, variable_type, type_of_literal, known_entity_type}
use Rattle.cedar_typing.specs.Rules.Leaves.{unknown_entity_type}
use Rattle.cedar_typing.specs.Rules.ShortCircuit.{conjunction, disjunction}
use Rattle.cedar_typing.specs.Rules.Unary.{unary_form, like_form, is_form}
use Rattle.cedar_typing.specs.Setting.{Setting}
use Rattle.cedar_typing.specs.Silence.{FailuresHaveErrors, IsSettled}
use Rattle.cedar_typing.specs.TypedExpr.{Source, TypedTree, Mark, place_of}
use Rattle.cedar_typing.proofs.KeptTypes.Induction.{kept_within}
use Rattle.cedar_typing.proofs.KeptTypes.Modes.{keeps_in_mode}
use Rattle.cedar_typing.proofs.KeptTypes.Types.{KeptIn}
use Rattle.cedar_typing.proofs.Silence.Attributes.{has_loud, get_loud, chain_loud}
use Rattle.cedar_typing.proofs.Silence.Branches.{short_circuit_loud, if_loud}
use Rattle.cedar_typing.proofs.Silence.Eager.{LoudAll, none_loud, more_loud, form_loud, one_operand_loud, two_operands_loud}
use Rattle.cedar_typing.proofs.Silence.Names.{AreClean, clean, clean_left, clean_right, literal_declared, action_typed}
use Rattle.cedar_typing.proofs.Silence.Operators.{binary_loud}
use Rattle.cedar_typing.proofs.Silence.Parts.{IsLoud, Knows, knows_of, Loud}
use Rattle.cedar_typing.proofs.Silence.Tables.{unary_loud, like_loud, is_loud, set_loud, record_loud, call_loud}

-- ---- leaves

module _ (m : Written) (node : Mark → TypedTree) (found : Option Ty) (there : found ≡ None → ⊥) where
  leaf_failures : (x : TypedTree) (es : List Finding) → LeafRecovery found m node x es → IsLoud es
  leaf_failures x es (leaf_missing e) = absurd (there e)

  leaf_loud : Knows (leaf_rules found m node) → Loud (leaf_rules found m node)
  leaf_loud s = record { failures = leaf_failures; single = s }

within_loud : (d : ℕ) (J : Judgment) → Loud J → Loud (visited d J)
within_loud d J h = record {
  failures = λ x es r. h.failures x es r.1;
  single = record { derivations = λ t c x r. h.single.derivations t c x r.1; marks = λ t c x r. h.single.marks t c x r.1 };
}

-- ---- all expressions

module _ (s : Setting) (ok : IsSettled s) where
  clean_of : Source → Type 0
  clean_of e = AreClean s.env.schema (subexpressions e)

  single : (e : Source) (prior : Caps) (d : ℕ) → Knows (rules_within s e prior d)
  single e prior d =
      knows_of (is_strict s.env.mode) _ (kept_within (KeptIn (is_strict s.env.mode)) s
      (keeps_in_mode (is_strict s.env.mode) s.env refl ok.faultless.mode ok.faultless.schema ok.faultless.formed)
      ok.faultless.functions ok.environment e prior d)

  entity_typed : (b : Bool) (t : Ty) (other : Option Ty) → b ≡ true → known_entity_type (if b then Some t else None) other ≡ None → ⊥
  entity_typed true t other h e = cc
  entity_typed false t other h e = cc

  literal_typed : (m : Written) (x : Lit) → AreClean s.env.schema (subexpressions (lit m x)) → type_of_literal s.env x ≡ None → ⊥
  literal_typed m (bool b) h e = cc
  literal_typed m (long z) h e = cc
  literal_typed m (string t) h e = cc
  literal_typed m (entity u) h e =
      entity_typed (declares_entity s.env.schema u) (TEntity (u.entity_type ∷ []))
      (unknown_entity_type s.env.mode u) (literal_declared s.env.schema m u h.0) e

  variable_typed : (x : Var) → variable_type s.env x ≡ None → ⊥
  variable_typed Var.Principal e = cc
  variable_typed Var.Action e = action_typed s.env.schema ok.faultless.schema s.env.request_env ok.environment e
  variable_typed Var.Resource e = cc
  variable_typed Var.Context e = cc

  -- each of two or three parts is clean if all of them are
  module _ (a b : Source) where
    left_of : AreClean s.env.schema (subexpressions b ++ subexpressions a) → AreClean s.env.schema (subexpressions a)
    left_of = clean_right s.env.schema (subexpressions b) (subexpressions a)

    right_of : AreClean s.env.schema (subexpressions b ++ subexpressions a) → AreClean s.env.schema (subexpressions b)
    right_of = clean_left s.env.schema (subexpressions b) (subexpressions a)

  mutual
    loud_within : (e : Source) → AreClean s.env.schema (subexpressions e) → (prior : Caps) (d : ℕ) → Loud (rules_within s e prior d)
    loud_within (lit m x) h prior d = leaf_loud m (λ k. lit k x) _ (literal_typed m x h) (single (lit m x) prior d)
    loud_within (var m x) h prior d = leaf_loud m (λ k. var k x) _ (variable_typed x) (single (var m x) prior d)
    loud_within (slot m x) h prior d = leaf_loud m (λ k. slot k x) _ (λ e. cc) (single (slot m x) prior d)
    loud_within (unknown m n) h prior d = absurd (true≢false h.0.known)
    loud_within (if_then_else m a b e) h prior d =
        let others = clean_right s.env.schema (subexpressions e) (subexpressions b ++ subexpressions a) h.1 in
        let otherwise = clean_left s.env.schema (subexpressions e) (subexpressions b ++ subexpressions a) h.1 in
        if_loud s.env m (place_of a) _ _ prior
        (within_loud (d + 1) _ (loud_within a (left_of a b others) prior (d + 1)))
        (λ p. within_loud (d + 1) _ (loud_within b (right_of a b others) p (d + 1)))
        _ (within_loud (d + 1) _ (loud_within e otherwise prior (d + 1)))
        (single (if_then_else m a b e) prior d)
    loud_within (and m a b) h prior d =
        short_circuit_loud s.env m (place_of a) _ _ prior
        (within_loud (d + 1) _ (loud_within a (left_of a b h.1) prior (d + 1)))
        (λ p. within_loud (d + 1) _ (loud_within b (right_of a b h.1) p (d + 1))) conjunction (place_of b)
        (single (and m a b) prior d)
    loud_within (or m a b) h prior d =
        short_circuit_loud s.env m (place_of a) _ _ prior
        (within_loud (d + 1) _ (loud_within a (left_of a b h.1) prior (d + 1)))
        (λ p. within_loud (d + 1) _ (loud_within b (right_of a b h.1) p (d + 1))) disjunction (place_of b)
        (single (or m a b) prior d)
    loud_within (unary m o a) h prior d =
        one_operand_loud s.env (unary_form m o) (unary_loud m o) (place_of a)
        _ (within_loud (d + 1) _ (loud_within a h.1 prior (d + 1))) (single (unary m o a) prior d)
    loud_within (binary m o a b) h prior d =
        two_operands_loud s.env (binary_form s.env m prior a b o)
        (binary_loud s.env ok.faultless.schema ok.environment m prior a b o (right_of a b h.1))
        (place_of a) (place_of b) _ _
        (within_loud (d + 1) _ (loud_within a (left_of a b h.1) prior (d + 1)))
        (within_loud (d + 1) _ (loud_within b (right_of a b h.1) prior (d + 1)))
        (single (binary m o a b) prior d)
    loud_within (call m n ts) h prior d =
        let f = call_form s.env s.functions m n (arguments ts) in
        form_loud f zero (call_loud s.env m s.functions n (arguments ts))
        _ (loud_all f.goes_on f.expects ts h.1 prior (d + 1)) (single (call m n ts) prior d)
    loud_within (get_attr m a x) h prior d =
        one_operand_loud s.env (get_form s.env m prior a x) (get_loud s.env m prior a x) (place_of a)
        _ (within_loud (d + 1) _ (loud_within a h.1 prior (d + 1))) (single (get_attr m a x) prior d)
    loud_within (has_attr m a x) h prior d =
        one_operand_loud s.env (has_form s.env m prior a x) (has_loud s.env m prior a x) (place_of a)
        _ (within_loud (d + 1) _ (loud_within a h.1 prior (d + 1))) (single (has_attr m a x) prior d)
    loud_within (ext_has_attr m a x xs) h prior d =
        one_operand_loud s.env (chain_form s.env m prior a x xs) (chain_loud s.env m prior a x xs) (place_of a)
        _ (within_loud (d + 1) _ (loud_within a h.1 prior (d + 1))) (single (ext_has_attr m a x xs) prior d)
    loud_within (like m a p) h prior d =
        one_operand_loud s.env (like_form m p) (like_loud m p) (place_of a)
        _ (within_loud (d + 1) _ (loud_within a h.1 prior (d + 1))) (single (like m a p) prior d)
    loud_within (is_type m a n) h prior d =
        one_operand_loud s.env (is_form m n) (is_loud m n) (place_of a)
        _ (within_loud (d + 1) _ (loud_within a h.1 prior (d + 1))) (single (is_type m a n) prior d)
    loud_within (set_of m ts) h prior d =
        form_loud (set_form s.env m) zero (set_loud s.env m) _ (loud_all true [] ts h.1 prior (d + 1)) (single (set_of m ts) prior d)
    loud_within (record_of m fs) h prior d =
        form_loud (record_form s.env m (field_keys fs)) zero (record_loud s.env m (field_keys fs))
        _ (loud_fields fs h.1 prior (d + 1)) (single (record_of m fs) prior d)

    -- expressions one after another
    loud_all : (goes_on : Bool) (qs : List Expectation) (ts : Trees Written)
        → AreClean s.env.schema (subexpressions_of_all ts) → (prior : Caps) (d : ℕ)
        → LoudAll zero (rules_all s goes_on qs ts prior d)
    loud_all goes_on qs no_trees h prior d = none_loud
    loud_all goes_on qs (tree e ts) h prior d =
        let xs = subexpressions_of_all ts in
        more_loud s.env goes_on (first_expectation qs) (place_of e)
        _ (within_loud d _ (loud_within e (clean_right s.env.schema xs (subexpressions e) h) prior d)) zero _
        (loud_all goes_on (later_expectations qs) ts (clean_left s.env.schema xs (subexpressions e) h) prior d)

    -- the values of fields
    loud_fields : (fs : Fields Written) → AreClean s.env.schema (subexpressions_of_fields fs) → (prior : Caps)
        (d : ℕ) → LoudAll zero (rules_fields s fs prior d)
    loud_fields no_fields h prior d = none_loud
    loud_fields (field k e fs) h prior d =
        let xs = subexpressions_of_fields fs in
        more_loud s.env false None (place_of e)
        _ (within_loud d _ (loud_within e (clean_right s.env.schema xs (subexpressions e) h) prior d)) zero _
        (loud_fields fs (clean_left s.env.schema xs (subexpressions e) h) prior d)

  pub loud : (e : Source) → AreClean s.env.schema (subexpressions e) → (prior : Caps) (d : ℕ) → Loud (rules s e prior d)
  loud e h prior d = within_loud d _ (loud_within e h prior d)

pub failures_have_errors : FailuresHaveErrors
failures_have_errors s ok e h prior d x es r = (loud s ok e (clean s.env.schema e h) prior d).failures x es r
