-- The rules of typing, form by form. Each expression is derived, with a type, capabilities and a typed
-- copy; or it fails, in the way that a rule says; or it is cut, because a part is too deep.
use Rattle.std.specs.Prelude.{ℕ, ◌+◌, Bool, false, List, Some, None}
use Rattle.cedar_types.specs.Expressions.Tree.{lit, var, slot, unknown, if_then_else, and, or, unary, binary, call, get_attr, has_attr}
use Rattle.cedar_types.specs.Expressions.Tree.{ext_has_attr, like, is_type, set_of, record_of, Trees, no_trees, tree, Fields, no_fields}
use Rattle.cedar_types.specs.Expressions.Tree.{field}
use Rattle.cedar_types.specs.Expressions.View.{Written}
use Rattle.cedar_typing.specs.Capabilities.{Caps}
use Rattle.cedar_typing.specs.Eager.{Expectation, first_expectation, later_expectations}
use Rattle.cedar_typing.specs.Judgments.{Derivation, Recovery, Cut, Judgment, visited}
use Rattle.cedar_typing.specs.Rules.Attributes.{has_form, get_form}
use Rattle.cedar_typing.specs.Rules.Binary.{binary_form}
use Rattle.cedar_typing.specs.Rules.Calls.{arguments, call_form}
use Rattle.cedar_typing.specs.Rules.Chains.{chain_form}
use Rattle.cedar_typing.specs.Rules.Records.{field_keys, record_form}
use Rattle.cedar_typing.specs.Rules.Sets.{set_form}
use Rattle.cedar_typing.specs.Rules.Conditional.{if_rules}
use Rattle.cedar_typing.specs.Rules.Eager.{Judgments, no_operands, one_more, eager_rules, one_operand_rules, two_operand_rules}
use Rattle.cedar_typing.specs.Rules.Eager.{operand_list_rules}
use Rattle.cedar_typing.specs.Rules.Leaves.{variable_type, slot_ty, type_of_literal, leaf_rules, unknown_rules}
use Rattle.cedar_typing.specs.Rules.ShortCircuit.{conjunction, disjunction, short_circuit_rules}
use Rattle.cedar_typing.specs.Rules.Unary.{unary_form, like_form, is_form}
use Rattle.cedar_typing.specs.Setting.{Setting}
use Rattle.cedar_typing.specs.TypedExpr.{Source, place_of}
pub mod Leaves
pub mod ShortCircuit
pub mod Conditional
pub mod Eager
pub mod Unary
pub mod Attributes
pub mod Numbers
pub mod Equality
pub mod Membership
pub mod Tags
pub mod Binary
pub mod Chains
pub mod Calls
pub mod Laws
pub mod Sets
pub mod Records

abbrev mutual
  -- the rules of an expression at depth d, which is within the limit, with the prior capabilities; its
  -- parts stand one deeper
  pub rules_within : Setting → Source → Caps → ℕ → Judgment
  rules_within s (lit m x) prior d = leaf_rules (type_of_literal s.env x) m (λ k. lit k x)
  rules_within s (var m x) prior d = leaf_rules (variable_type s.env x) m (λ k. var k x)
  rules_within s (slot m x) prior d =
      leaf_rules (Some (slot_ty s.env.request_env x)) m (λ k. slot k x)
  rules_within s (unknown m n) prior d = unknown_rules n m
  rules_within s (if_then_else m a b e) prior d =
      if_rules s.env m (place_of a)
      (visited (d + 1) (rules_within s a prior (d + 1)))
      (λ known. visited (d + 1) (rules_within s b known (d + 1)))
      (visited (d + 1) (rules_within s e prior (d + 1)))
      prior
  rules_within s (and m a b) prior d =
      short_circuit_rules s.env conjunction m (place_of a) (place_of b)
      (visited (d + 1) (rules_within s a prior (d + 1)))
      (λ known. visited (d + 1) (rules_within s b known (d + 1)))
      prior
  rules_within s (or m a b) prior d =
      short_circuit_rules s.env disjunction m (place_of a) (place_of b)
      (visited (d + 1) (rules_within s a prior (d + 1)))
      (λ known. visited (d + 1) (rules_within s b known (d + 1)))
      prior
  rules_within s (unary m o a) prior d =
      one_operand_rules s.env (unary_form m o) (place_of a)
      (visited (d + 1) (rules_within s a prior (d + 1)))
  rules_within s (binary m o a b) prior d =
      two_operand_rules s.env (binary_form s.env m prior a b o) (place_of a) (place_of b)
      (visited (d + 1) (rules_within s a prior (d + 1)))
      (visited (d + 1) (rules_within s b prior (d + 1)))
  rules_within s (call m n ts) prior d =
      operand_list_rules (call_form s.env s.functions m n (arguments ts))
      (λ goes_on qs. rules_all s goes_on qs ts prior (d + 1))
  rules_within s (get_attr m e x) prior d =
      one_operand_rules s.env (get_form s.env m prior e x) (place_of e)
      (visited (d + 1) (rules_within s e prior (d + 1)))
  rules_within s (has_attr m e x) prior d =
      one_operand_rules s.env (has_form s.env m prior e x) (place_of e)
      (visited (d + 1) (rules_within s e prior (d + 1)))
  rules_within s (ext_has_attr m a x xs) prior d =
      one_operand_rules s.env (chain_form s.env m prior a x xs) (place_of a)
      (visited (d + 1) (rules_within s a prior (d + 1)))
  rules_within s (like m a p) prior d =
      one_operand_rules s.env (like_form m p) (place_of a)
      (visited (d + 1) (rules_within s a prior (d + 1)))
  rules_within s (is_type m a n) prior d =
      one_operand_rules s.env (is_form m n) (place_of a)
      (visited (d + 1) (rules_within s a prior (d + 1)))
  rules_within s (set_of m ts) prior d =
      operand_list_rules (set_form s.env m) (λ goes_on qs. rules_all s goes_on qs ts prior (d + 1))
  rules_within s (record_of m fs) prior d =
      eager_rules (record_form s.env m (field_keys fs)) (rules_fields s fs prior (d + 1))

  -- the rules of expressions one after another, each at depth d, as operands with expected types. If
  -- goes_on, the operands after one that is too deep are visited too
  pub rules_all : Setting → Bool → List Expectation → Trees Written → Caps → ℕ → Judgments
  rules_all s goes_on qs no_trees prior d = no_operands
  rules_all s goes_on qs (tree e es) prior d =
      one_more s.env goes_on (first_expectation qs) (place_of e)
      (visited d (rules_within s e prior d))
      (rules_all s goes_on (later_expectations qs) es prior d)

  -- the rules of the values of fields, one after another. None is visited after one that is too deep
  pub rules_fields : Setting → Fields Written → Caps → ℕ → Judgments
  rules_fields s no_fields prior d = no_operands
  rules_fields s (field k e fs) prior d =
      one_more s.env false None (place_of e) (visited d (rules_within s e prior d))
      (rules_fields s fs prior d)

-- the rules of an expression at depth d, with the prior capabilities
abbrev pub rules : Setting → Source → Caps → ℕ → Judgment
rules s e prior d = visited d (rules_within s e prior d)

-- the judgment of typing: e has this type, produces these capabilities, and has this typed copy
abbrev pub Derives : Setting → Source → Caps → ℕ → Derivation
Derives s e prior d = (rules s e prior d).derives

-- e fails, with this typed copy and these errors
abbrev pub Recovers : Setting → Source → Caps → ℕ → Recovery
Recovers s e prior d = (rules s e prior d).recovers

-- e is cut, because a part that is visited is too deep, with these errors
abbrev pub Cuts : Setting → Source → Caps → ℕ → Cut
Cuts s e prior d = (rules s e prior d).cuts
