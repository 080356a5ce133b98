-- Strict is kept in Permissive: all expressions.
use Rattle.std.proofs.Common.{◌≡◌, ℕ, ◌+◌, Bool, List, [], ◌∷◌, Some, None, false, true, refl, sym, ◌∙◌, subst}
use Rattle.cedar_types.specs.declared.base.expressions.operators.Var.{Var}
use Rattle.cedar_types.specs.declared.base.types.ValidationMode.TheVariants.{Strict, Permissive}
use Rattle.cedar_types.specs.Names.{Path}
use Rattle.cedar_types.specs.Types.{Ty}
use Rattle.cedar_types.specs.Types.Bounds.{lub}
use Rattle.cedar_types.specs.Expressions.Tree.{lit, var, slot, unknown, if_then_else, and, or, unary}
use Rattle.cedar_types.specs.Expressions.Tree.{binary, call, get_attr, has_attr, ext_has_attr, like, is_type, set_of, record_of, Trees}
use Rattle.cedar_types.specs.Expressions.Tree.{no_trees, tree, Fields, no_fields, field}
use Rattle.cedar_types.specs.Expressions.View.{Written}
use Rattle.cedar_types.specs.Errors.{Finding}
use Rattle.cedar_types.specs.Extensions.Functions.{function_named}
use Rattle.cedar_typing.specs.Capabilities.{Caps}
use Rattle.cedar_typing.specs.Eager.{Expectation, first_expectation, later_expectations}
use Rattle.cedar_typing.specs.Judgments.{Judgment, visited}
use Rattle.cedar_typing.specs.Refinement.{in_mode, HasFormedTypes, StrictIsKept}
use Rattle.cedar_typing.specs.Rules.{rules, rules_within, rules_all, rules_fields}
use Rattle.cedar_typing.specs.Rules.Attributes.{has_form, get_form}
use Rattle.cedar_typing.specs.Rules.Binary.{binary_form}
use Rattle.cedar_typing.specs.Rules.Calls.{arguments, return_type, call_errors, call_form}
use Rattle.cedar_typing.specs.Rules.Chains.{chain_form}
use Rattle.cedar_typing.specs.Rules.Eager.{two_operand_rules, operand_list_rules}
use Rattle.cedar_typing.specs.Rules.Records.{field_keys, record_form}
use Rattle.cedar_typing.specs.Rules.Sets.{set_form}
use Rattle.cedar_typing.specs.Rules.Leaves.{leaf_rules, variable_type, type_of_literal}
use Rattle.cedar_typing.specs.Rules.ShortCircuit.{conjunction, disjunction}
use Rattle.cedar_typing.specs.Rules.Unary.{unary_form, like_form, is_form}
use Rattle.cedar_typing.specs.Setting.{Setting}
use Rattle.cedar_typing.specs.TypedExpr.{Source, place_of}
use Rattle.cedar_typing.proofs.KeptTypes.Induction.{kept_by, all_kept_by, fields_kept_by, within_kept}
use Rattle.cedar_typing.proofs.KeptTypes.Keeping.{HasKept, IsKeeping}
use Rattle.cedar_typing.proofs.KeptTypes.Rules.{KeepsTypes}
use Rattle.cedar_typing.proofs.Refinement.Bounds.{strict_bound_is_kept}
use Rattle.cedar_typing.proofs.Refinement.Calls.{says_errors, call_is}
use Rattle.cedar_typing.proofs.Refinement.Eager.{RefinesAll, none_refine, more_refine, form_refines, one_operand_refines, two_operands_refine}
use Rattle.cedar_typing.proofs.Refinement.Eager.{loud_refines}
use Rattle.cedar_typing.proofs.Refinement.Formed.{IsFormed, keeps_formed, variable_formed, return_formed}
use Rattle.cedar_typing.proofs.Refinement.Parts.{not_nil, Refines, refines_itself, sides_refine, if_refines}
use Rattle.cedar_typing.proofs.Refinement.Tables.{strict_env, permissive_env, literal_same, variable_same, has_says, get_says, chain_says, record_says}
use Rattle.cedar_typing.proofs.Refinement.Tables.{set_says, binary_says, binary_is}

within_refines : (d : ℕ) (J J' : Judgment) → Refines J J' → Refines (visited d J) (visited d J')
within_refines d J J' r = record {
  derivations = λ t c x h. (h.0, r.derivations t c x h.1);
  silences = λ x es h q. (h.0, r.silences x es h.1 q);
}

module _ (s : Setting) (formed : HasFormedTypes s) where
  abbrev one : Setting
  one = in_mode Strict s

  abbrev other : Setting
  other = in_mode Permissive s

  keeps : IsKeeping IsFormed (strict_env s)
  keeps = keeps_formed (strict_env s) formed.schema

  returns : (n : Path) → HasKept IsFormed (return_type (function_named n s.functions))
  returns = return_formed s.functions formed.functions

  variables : (x : Var) → HasKept IsFormed (variable_type (strict_env s) x)
  variables = variable_formed (strict_env s) formed.context

  bounds : (t u v : Ty) → IsFormed u → lub Strict t u ≡ Some v → lub Permissive t u ≡ Some v
  bounds t u v k e = strict_bound_is_kept t u v k e

  -- each type that is found of a part is formed
  kept : (e : Source) (prior : Caps) (d : ℕ) → KeepsTypes IsFormed (visited d (rules_within one e prior d))
  kept e prior d = within_kept IsFormed d _ (kept_by IsFormed one keeps returns variables e prior d)

  deeper : {J J' : Judgment} (d : ℕ) → Refines J J' → Refines (visited (d + 1) J) (visited (d + 1) J')
  deeper d r = within_refines (d + 1) _ _ r

  -- a call has one form in both modes if it has no errors in Strict; else it always has an error
  by_errors : (m : Written) (n : Path) (ts : Trees Written) (prior : Caps) (d : ℕ)
      → RefinesAll
      (rules_all one (call_form (strict_env s) s.functions m n (arguments ts)).goes_on
      (call_form (strict_env s) s.functions m n (arguments ts)).expects ts prior (d + 1))
      (rules_all other (call_form (strict_env s) s.functions m n (arguments ts)).goes_on
      (call_form (strict_env s) s.functions m n (arguments ts)).expects ts prior (d + 1))
      → (es : List Finding)
      → call_errors (strict_env s) m.place (function_named n s.functions) n (arguments ts) ≡ es
      → Refines (rules_within one (call m n ts) prior d) (rules_within other (call m n ts) prior d)
  by_errors m n ts prior d r [] e =
      let f = call_form (strict_env s) s.functions m n (arguments ts) in
      subst (λ g. Refines (rules_within one (call m n ts) prior d)
      (operand_list_rules g (λ goes_on qs. rules_all other goes_on qs ts prior (d + 1))))
      (sym (call_is s m n (arguments ts) e))
      (form_refines IsFormed f f.decides f.at_limit (λ us k q. refl) _ _
      (all_kept_by IsFormed one keeps returns variables f.goes_on f.expects ts prior (d + 1)) r)
  by_errors m n ts prior d r (x ∷ es) e =
      let f = call_form (strict_env s) s.functions m n (arguments ts) in
      loud_refines f
      (λ us q. not_nil x es (sym e ∙ sym (says_errors (return_type (function_named n s.functions)) _) ∙ q)) _ _

  mutual
    refines_within : (e : Source) (prior : Caps) (d : ℕ) → Refines (rules_within one e prior d) (rules_within other e prior d)
    refines_within (lit m x) prior d =
        subst (λ t. Refines (leaf_rules (type_of_literal (strict_env s) x) m (λ k. lit k x)) (leaf_rules t m (λ k. lit k x)))
        (sym (literal_same s x)) (refines_itself _)
    refines_within (var m x) prior d =
        subst (λ t. Refines (leaf_rules (variable_type (strict_env s) x) m (λ k. var k x)) (leaf_rules t m (λ k. var k x)))
        (sym (variable_same s x)) (refines_itself _)
    refines_within (slot m x) prior d = refines_itself _
    refines_within (unknown m n) prior d = refines_itself _
    refines_within (if_then_else m a b e) prior d =
        if_refines (strict_env s) (permissive_env s) m (place_of a) _ _ _ _ prior (deeper d (refines_within a prior (d + 1)))
        (λ p. deeper d (refines_within b p (d + 1))) IsFormed bounds _ _ (deeper d (refines_within e prior (d + 1))) (kept e prior (d + 1))
    refines_within (and m a b) prior d =
        sides_refine (strict_env s) (permissive_env s) m (place_of a) _ _ _ _ prior (deeper d (refines_within a prior (d + 1)))
        (λ p. deeper d (refines_within b p (d + 1))) conjunction (place_of b)
    refines_within (or m a b) prior d =
        sides_refine (strict_env s) (permissive_env s) m (place_of a) _ _ _ _ prior (deeper d (refines_within a prior (d + 1)))
        (λ p. deeper d (refines_within b p (d + 1))) disjunction (place_of b)
    refines_within (unary m o a) prior d =
        let f = unary_form m o in
        one_operand_refines IsFormed f f.decides f.at_limit (λ ts k q. refl) (strict_env s) (permissive_env s) (place_of a) _ _
        (kept a prior (d + 1)) (deeper d (refines_within a prior (d + 1)))
    refines_within (binary m o a b) prior d =
        subst (λ f. Refines (rules_within one (binary m o a b) prior d)
        (two_operand_rules (permissive_env s) f (place_of a) (place_of b)
        (visited (d + 1) (rules_within other a prior (d + 1))) (visited (d + 1) (rules_within other b prior (d + 1)))))
        (binary_is s IsFormed bounds keeps.tags m prior a b o)
        (two_operands_refine IsFormed (binary_form (strict_env s) m prior a b o) _ _
        (binary_says s IsFormed bounds keeps.tags m prior a b o) (strict_env s) (permissive_env s) (place_of a) (place_of b) _ _ _ _
        (kept a prior (d + 1)) (deeper d (refines_within a prior (d + 1)))
        (kept b prior (d + 1)) (deeper d (refines_within b prior (d + 1))))
    refines_within (call m n ts) prior d =
        let f = call_form (strict_env s) s.functions m n (arguments ts) in
        by_errors m n ts prior d (all_refine f.goes_on f.expects ts prior (d + 1))
        (call_errors (strict_env s) m.place (function_named n s.functions) n (arguments ts)) refl
    refines_within (get_attr m e x) prior d =
        one_operand_refines IsFormed (get_form (strict_env s) m prior e x) (get_form (permissive_env s) m prior e x).decides
        (get_form (permissive_env s) m prior e x).at_limit
        (get_says s IsFormed m prior e x) (strict_env s) (permissive_env s) (place_of e) _ _
        (kept e prior (d + 1)) (deeper d (refines_within e prior (d + 1)))
    refines_within (has_attr m e x) prior d =
        one_operand_refines IsFormed (has_form (strict_env s) m prior e x) (has_form (permissive_env s) m prior e x).decides
        (has_form (permissive_env s) m prior e x).at_limit
        (has_says s IsFormed m prior e x) (strict_env s) (permissive_env s) (place_of e) _ _
        (kept e prior (d + 1)) (deeper d (refines_within e prior (d + 1)))
    refines_within (ext_has_attr m a x xs) prior d =
        one_operand_refines IsFormed (chain_form (strict_env s) m prior a x xs) (chain_form (permissive_env s) m prior a x xs).decides
        (chain_form (permissive_env s) m prior a x xs).at_limit
        (chain_says s IsFormed m prior a x xs) (strict_env s) (permissive_env s) (place_of a) _ _
        (kept a prior (d + 1)) (deeper d (refines_within a prior (d + 1)))
    refines_within (like m a p) prior d =
        let f = like_form m p in
        one_operand_refines IsFormed f f.decides f.at_limit (λ ts k q. refl) (strict_env s) (permissive_env s) (place_of a) _ _
        (kept a prior (d + 1)) (deeper d (refines_within a prior (d + 1)))
    refines_within (is_type m a n) prior d =
        let f = is_form m n in
        one_operand_refines IsFormed f f.decides f.at_limit (λ ts k q. refl) (strict_env s) (permissive_env s) (place_of a) _ _
        (kept a prior (d + 1)) (deeper d (refines_within a prior (d + 1)))
    refines_within (set_of m ts) prior d =
        form_refines IsFormed (set_form (strict_env s) m) (set_form (permissive_env s) m).decides (set_form (permissive_env s) m).at_limit
        (set_says s IsFormed bounds m) _ _
        (all_kept_by IsFormed one keeps returns variables true [] ts prior (d + 1))
        (all_refine true [] ts prior (d + 1))
    refines_within (record_of m fs) prior d =
        form_refines IsFormed (record_form (strict_env s) m (field_keys fs)) (record_form (permissive_env s) m (field_keys fs)).decides
        (record_form (permissive_env s) m (field_keys fs)).at_limit (record_says s IsFormed m (field_keys fs)) _ _
        (fields_kept_by IsFormed one keeps returns variables fs prior (d + 1))
        (fields_refine fs prior (d + 1))

    all_refine : (goes_on : Bool) (qs : List Expectation) (ts : Trees Written) (prior : Caps) (d : ℕ)
        → RefinesAll (rules_all one goes_on qs ts prior d) (rules_all other goes_on qs ts prior d)
    all_refine goes_on qs no_trees prior d = none_refine
    all_refine goes_on qs (tree e ts) prior d =
        more_refine (strict_env s) (permissive_env s) goes_on goes_on (first_expectation qs) (place_of e) _ _
        (within_refines d _ _ (refines_within e prior d)) _ _ (all_refine goes_on (later_expectations qs) ts prior d)

    fields_refine : (fs : Fields Written) (prior : Caps) (d : ℕ) → RefinesAll (rules_fields one fs prior d) (rules_fields other fs prior d)
    fields_refine no_fields prior d = none_refine
    fields_refine (field k e fs) prior d =
        more_refine (strict_env s) (permissive_env s) false false None (place_of e) _ _
        (within_refines d _ _ (refines_within e prior d)) _ _ (fields_refine fs prior d)

pub refines : (s : Setting) → HasFormedTypes s → (e : Source) (prior : Caps) (d : ℕ)
    → Refines (rules (in_mode Strict s) e prior d) (rules (in_mode Permissive s) e prior d)
refines s formed e prior d = within_refines d _ _ (refines_within s formed e prior d)

pub strict_is_kept : StrictIsKept
strict_is_kept s formed e prior d =
    let r = refines s formed e prior d in
    record { derived = r.derivations; silent = λ x h. r.silences x [] h refl }
