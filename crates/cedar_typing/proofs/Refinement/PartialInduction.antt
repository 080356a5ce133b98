-- Partial has each derivation of Permissive, in any environment.
use Rattle.std.proofs.Common.{◌≡◌, ℕ, ◌+◌, Bool, true, false, List, [], Option, Some, None, refl, sym, ◌∙◌, subst}
use Rattle.cedar_types.specs.declared.base.location.Loc.{Loc}
use Rattle.cedar_types.specs.declared.base.types.ValidationMode.TheVariants.{Permissive, Partial}
use Rattle.cedar_types.specs.Types.{Ty}
use Rattle.cedar_types.specs.Expressions.Tree.{lit, var, slot, unknown, if_then_else, and, or, unary}
use Rattle.cedar_types.specs.Expressions.Tree.{binary, call, get_attr, has_attr, ext_has_attr, like, is_type, set_of, record_of, Trees}
use Rattle.cedar_types.specs.Expressions.Tree.{no_trees, tree, Fields, no_fields, field}
use Rattle.cedar_types.specs.Expressions.View.{Written}
use Rattle.cedar_types.specs.Errors.{Finding}
use Rattle.cedar_typing.specs.Capabilities.{Caps, no_caps, union}
use Rattle.cedar_typing.specs.Eager.{Expectation, Decision, Form, first_expectation, later_expectations, types_found}
use Rattle.cedar_typing.specs.Judgments.{Judgment, visited}
use Rattle.cedar_typing.specs.PolicyCheck.{check_true}
use Rattle.cedar_typing.specs.Refinement.{in_mode, PermissiveIsKeptInPartial, SuccessIsKeptInPartial}
use Rattle.cedar_typing.specs.Rules.{rules_within, rules_all, rules_fields}
use Rattle.cedar_typing.specs.Rules.Attributes.{has_form, get_form}
use Rattle.cedar_typing.specs.Rules.Binary.{binary_form}
use Rattle.cedar_typing.specs.Rules.Calls.{arguments, call_form}
use Rattle.cedar_typing.specs.Rules.Chains.{chain_form}
use Rattle.cedar_typing.specs.Rules.Conditional.{if_true, if_false, if_open, if_rules}
use Rattle.cedar_typing.specs.Rules.Eager.{Judgments, no_operands, also_derived, one_more, eager_typed, eager_rules, one_operand_rules}
use Rattle.cedar_typing.specs.Rules.Eager.{two_operand_rules, operand_list_rules}
use Rattle.cedar_typing.specs.Rules.Leaves.{LeafRule, leaf, leaf_rules}
use Rattle.cedar_typing.specs.Rules.Records.{field_keys, record_form}
use Rattle.cedar_typing.specs.Rules.Sets.{set_form}
use Rattle.cedar_typing.specs.Rules.ShortCircuit.{Connective, conjunction, disjunction, short_circuit_rules, left_ends, both_sides}
use Rattle.cedar_typing.specs.Rules.Unary.{unary_form, like_form, is_form}
use Rattle.cedar_typing.specs.Setting.{Setting}
use Rattle.cedar_typing.specs.TypeEnv.{TypeEnv}
use Rattle.cedar_typing.specs.TypedExpr.{Source, TypedTree, Mark, place_of}
use Rattle.cedar_typing.proofs.Refinement.Eager.{with_table}
use Rattle.cedar_typing.proofs.Refinement.PartialBounds.{bound_same}
use Rattle.cedar_typing.proofs.Refinement.PartialTables.{TableGivesToo, same_gives, wide, part, literal_too, variable_too, set_too, record_too}
use Rattle.cedar_typing.proofs.Refinement.PartialTables.{has_form_too, get_form_too, chain_form_too, call_same, binary_too, binary_is}

-- J' has each derivation of J
record DerivesToo (J J' : Judgment) : Type 0 where
  pub derivations : (t : Ty) (c : Caps) (x : TypedTree) → J.derives t c x → J'.derives t c x

record DeriveToo (Js Js' : Judgments) : Type 0 where
  pub derivations : (xs : List TypedTree) → Js.derive xs → Js'.derive xs

itself : (J : Judgment) → DerivesToo J J
itself J = record { derivations = λ t c x h. h }

none_too : DeriveToo no_operands no_operands
none_too = record { derivations = λ xs h. h }

within_too : (d : ℕ) (J J' : Judgment) → DerivesToo J J' → DerivesToo (visited d J) (visited d J')
within_too d J J' r = record { derivations = λ t c x h. (h.0, r.derivations t c x h.1) }

module _ (o o' : Option Ty) (m : Written) (node : Mark → TypedTree) (f : (t : Ty) → o ≡ Some t → o' ≡ Some t) where
  leaf_derived : (t : Ty) (c : Caps) (x : TypedTree) → LeafRule o m node t c x → LeafRule o' m node t c x
  leaf_derived t c x (leaf {t = u} e) = leaf (f u e)

  leaf_too : DerivesToo (leaf_rules o m node) (leaf_rules o' m node)
  leaf_too = record { derivations = leaf_derived }

module _ (env env' : TypeEnv) where
  module _ (f : Connective) (m : Written) (l l' : Option Loc) (A A' : Judgment) (B B' : Caps → Judgment) (prior : Caps)
      (a : DerivesToo A A') (b : (p : Caps) → DerivesToo (B p) (B' p)) where
    sides_derived : (t : Ty) (c : Caps) (x : TypedTree) → (short_circuit_rules env f m l l' A B prior).derives t c x
        → (short_circuit_rules env' f m l l' A' B' prior).derives t c x
    sides_derived t c x (left_ends d p n) = left_ends (a.derivations _ _ _ d) p n
    sides_derived t c x (both_sides {c = k} d p n d' q) =
        both_sides (a.derivations _ _ _ d) p n ((b (f.right_prior prior k)).derivations _ _ _ d') q

    sides_too : DerivesToo (short_circuit_rules env f m l l' A B prior) (short_circuit_rules env' f m l l' A' B' prior)
    sides_too = record { derivations = sides_derived }

  module _ (goes_on : Bool) (q : Expectation) (l : Option Loc) (J J' : Judgment) (Js Js' : Judgments)
      (r : DerivesToo J J') (rs : DeriveToo Js Js') where
    more_derived : (xs : List TypedTree) → (one_more env goes_on q l J Js).derive xs → (one_more env' goes_on q l J' Js').derive xs
    more_derived xs (also_derived {t = t} {c = c} {x = x} {xs = ys} d h ds) =
        also_derived (r.derivations t c x d) h (rs.derivations ys ds)

    more_too : DeriveToo (one_more env goes_on q l J Js) (one_more env' goes_on q l J' Js')
    more_too = record { derivations = more_derived }

module _ (f : Form) (table : List (Option Ty) → Decision) (limit : List (Option Ty) → List Finding) (same : TableGivesToo f table)
    (Js Js' : Judgments) (r : DeriveToo Js Js') where
  form_derived : (t : Ty) (c : Caps) (x : TypedTree) → (eager_rules f Js).derives t c x → (eager_rules (with_table f table limit) Js').derives t c x
  form_derived t c x (eager_typed {xs = xs} ds e) = eager_typed (r.derivations xs ds) (same (types_found xs) t c e)

  form_too : DerivesToo (eager_rules f Js) (eager_rules (with_table f table limit) Js')
  form_too = record { derivations = form_derived }

module _ (s : Setting) where
  abbrev one : Setting
  one = in_mode Permissive s

  abbrev other : Setting
  other = in_mode Partial s

  module _ (m : Written) (l : Option Loc) (A A' : Judgment) (B B' : Caps → Judgment) (E E' : Judgment) (prior : Caps)
      (a : DerivesToo A A') (b : (p : Caps) → DerivesToo (B p) (B' p)) (e : DerivesToo E E') where
    if_derived : (t : Ty) (c : Caps) (x : TypedTree) → (if_rules (wide s) m l A B E prior).derives t c x
        → (if_rules (part s) m l A' B' E' prior).derives t c x
    if_derived t c x (if_true {c = k} d d') = if_true (a.derivations _ _ _ d) ((b (union prior k)).derivations _ _ _ d')
    if_derived t c x (if_false d d') = if_false (a.derivations _ _ _ d) (e.derivations _ _ _ d')
    if_derived t c x (if_open {t = v} {u = u} {c = k} d p n n' d' d'' h) =
        if_open (a.derivations _ _ _ d) p n n' ((b (union prior k)).derivations _ _ _ d') (e.derivations _ _ _ d'')
        (bound_same v u ∙ h)

    if_too : DerivesToo (if_rules (wide s) m l A B E prior) (if_rules (part s) m l A' B' E' prior)
    if_too = record { derivations = if_derived }

  one_too : (f : Form) (table : List (Option Ty) → Decision) (limit : List (Option Ty) → List Finding) → TableGivesToo f table
      → (l : Option Loc) (J J' : Judgment) → DerivesToo J J'
      → DerivesToo (one_operand_rules (wide s) f l J) (one_operand_rules (part s) (with_table f table limit) l J')
  one_too f table limit same l J J' r =
      form_too f table limit same _ _
      (more_too (wide s) (part s) f.goes_on (first_expectation f.expects) l J J' no_operands no_operands r none_too)

  two_too : (f : Form) (table : List (Option Ty) → Decision) (limit : List (Option Ty) → List Finding) → TableGivesToo f table
      → (l l' : Option Loc) (J J' I I' : Judgment) → DerivesToo J J' → DerivesToo I I'
      → DerivesToo (two_operand_rules (wide s) f l l' J I) (two_operand_rules (part s) (with_table f table limit) l l' J' I')
  two_too f table limit same l l' J J' I I' r r' =
      form_too f table limit same _ _
      (more_too (wide s) (part s) f.goes_on (first_expectation f.expects) l J J' _ _ r
      (more_too (wide s) (part s) f.goes_on (first_expectation (later_expectations f.expects)) l' I I' no_operands no_operands r' none_too))

  deeper : (d : ℕ) (J J' : Judgment) → DerivesToo J J' → DerivesToo (visited (d + 1) J) (visited (d + 1) J')
  deeper d J J' r = within_too (d + 1) J J' r

  mutual
    too_within : (e : Source) (prior : Caps) (d : ℕ) → DerivesToo (rules_within one e prior d) (rules_within other e prior d)
    too_within (lit m x) prior d = leaf_too _ _ m (λ k. lit k x) (literal_too s x)
    too_within (var m x) prior d = leaf_too _ _ m (λ k. var k x) (variable_too s x)
    too_within (slot m x) prior d = itself _
    too_within (unknown m n) prior d = itself _
    too_within (if_then_else m a b e) prior d =
        if_too m (place_of a) _ _ _ _ _ _ prior (deeper d _ _ (too_within a prior (d + 1)))
        (λ p. deeper d _ _ (too_within b p (d + 1))) (deeper d _ _ (too_within e prior (d + 1)))
    too_within (and m a b) prior d =
        sides_too (wide s) (part s) conjunction m (place_of a) (place_of b) _ _ _ _ prior
        (deeper d _ _ (too_within a prior (d + 1))) (λ p. deeper d _ _ (too_within b p (d + 1)))
    too_within (or m a b) prior d =
        sides_too (wide s) (part s) disjunction m (place_of a) (place_of b) _ _ _ _ prior
        (deeper d _ _ (too_within a prior (d + 1))) (λ p. deeper d _ _ (too_within b p (d + 1)))
    too_within (unary m o a) prior d =
        let f = unary_form m o in
        one_too f f.decides f.at_limit (λ ts. same_gives _ _ refl) (place_of a) _ _ (deeper d _ _ (too_within a prior (d + 1)))
    too_within (binary m o a b) prior d =
        subst (λ f. DerivesToo (rules_within one (binary m o a b) prior d)
        (two_operand_rules (part s) f (place_of a) (place_of b)
        (visited (d + 1) (rules_within other a prior (d + 1))) (visited (d + 1) (rules_within other b prior (d + 1)))))
        (binary_is s m prior a b o)
        (two_too (binary_form (wide s) m prior a b o) _ _ (binary_too s m prior a b o) (place_of a) (place_of b) _ _ _ _
        (deeper d _ _ (too_within a prior (d + 1))) (deeper d _ _ (too_within b prior (d + 1))))
    too_within (call m n ts) prior d =
        let f = call_form (wide s) s.functions m n (arguments ts) in
        subst (λ g. DerivesToo (rules_within one (call m n ts) prior d)
        (operand_list_rules g (λ goes_on qs. rules_all other goes_on qs ts prior (d + 1))))
        (sym (call_same s m n (arguments ts)))
        (form_too f f.decides f.at_limit (λ us. same_gives _ _ refl) _ _ (all_too f.goes_on f.expects ts prior (d + 1)))
    too_within (get_attr m e x) prior d =
        one_too (get_form (wide s) m prior e x) (get_form (part s) m prior e x).decides (get_form (part s) m prior e x).at_limit
        (get_form_too s m prior e x) (place_of e) _ _ (deeper d _ _ (too_within e prior (d + 1)))
    too_within (has_attr m e x) prior d =
        one_too (has_form (wide s) m prior e x) (has_form (part s) m prior e x).decides (has_form (part s) m prior e x).at_limit
        (has_form_too s m prior e x) (place_of e) _ _ (deeper d _ _ (too_within e prior (d + 1)))
    too_within (ext_has_attr m a x xs) prior d =
        one_too (chain_form (wide s) m prior a x xs) (chain_form (part s) m prior a x xs).decides (chain_form (part s) m prior a x xs).at_limit
        (chain_form_too s m prior a x xs) (place_of a) _ _ (deeper d _ _ (too_within a prior (d + 1)))
    too_within (like m a p) prior d =
        let f = like_form m p in
        one_too f f.decides f.at_limit (λ ts. same_gives _ _ refl) (place_of a) _ _ (deeper d _ _ (too_within a prior (d + 1)))
    too_within (is_type m a n) prior d =
        let f = is_form m n in
        one_too f f.decides f.at_limit (λ ts. same_gives _ _ refl) (place_of a) _ _ (deeper d _ _ (too_within a prior (d + 1)))
    too_within (set_of m ts) prior d =
        form_too (set_form (wide s) m) (set_form (part s) m).decides (set_form (part s) m).at_limit (set_too s m) _ _
        (all_too true [] ts prior (d + 1))
    too_within (record_of m fs) prior d =
        form_too (record_form (wide s) m (field_keys fs)) (record_form (part s) m (field_keys fs)).decides
        (record_form (part s) m (field_keys fs)).at_limit (record_too s m (field_keys fs)) _ _ (fields_too fs prior (d + 1))

    all_too : (goes_on : Bool) (qs : List Expectation) (ts : Trees Written) (prior : Caps) (d : ℕ)
        → DeriveToo (rules_all one goes_on qs ts prior d) (rules_all other goes_on qs ts prior d)
    all_too goes_on qs no_trees prior d = none_too
    all_too goes_on qs (tree e ts) prior d =
        more_too (wide s) (part s) goes_on (first_expectation qs) (place_of e) _ _ _ _ (within_too d _ _ (too_within e prior d))
        (all_too goes_on (later_expectations qs) ts prior d)

    fields_too : (fs : Fields Written) (prior : Caps) (d : ℕ) → DeriveToo (rules_fields one fs prior d) (rules_fields other fs prior d)
    fields_too no_fields prior d = none_too
    fields_too (field k e fs) prior d =
        more_too (wide s) (part s) false None (place_of e) _ _ _ _ (within_too d _ _ (too_within e prior d)) (fields_too fs prior d)

pub permissive_is_kept_in_partial : PermissiveIsKeptInPartial
permissive_is_kept_in_partial s e prior d t c x h = (within_too d _ _ (too_within s e prior d)).derivations t c x h

pub success_is_kept_in_partial : SuccessIsKeptInPartial
success_is_kept_in_partial s e x (check_true t c d a n) =
    check_true t c (permissive_is_kept_in_partial s e no_caps 1 t c x d) a n
