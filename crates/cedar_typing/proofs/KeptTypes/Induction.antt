-- Each type that typing finds is kept, for all expressions.
use Rattle.std.proofs.Common.{◌≡◌, ℕ, ◌+◌, Bool, true, false, List, [], ◌∷◌, Option, Some, None, ◌&&◌, ◌||◌, if◌then◌else◌, refl, sym}
use Rattle.std.proofs.Common.{subst}
use Rattle.cedar_types.specs.declared.base.expressions.operators.Var.{Var}
use Rattle.cedar_types.specs.declared.base.types.BoolType.TheVariants.{AnyBool, True, False}
use Rattle.cedar_types.specs.declared.base.types.ValidationMode.{ValidationMode}
use Rattle.cedar_types.specs.Names.{Text, Path, Uid}
use Rattle.cedar_types.specs.Types.{Ty, TNever, TBool, TEntity}
use Rattle.cedar_types.specs.Expressions.Tree.{Lit, bool, long, string, entity, lit, var, slot, unknown, if_then_else, and, or, unary}
use Rattle.cedar_types.specs.Expressions.Tree.{binary, call, get_attr, has_attr, ext_has_attr, like, is_type, set_of, record_of, Trees}
use Rattle.cedar_types.specs.Expressions.Tree.{no_trees, tree, Fields, no_fields, field}
use Rattle.cedar_types.specs.Expressions.View.{Written}
use Rattle.cedar_types.specs.Types.Lookups.{declares_entity, literal_type, attribute_type, may_have}
use Rattle.cedar_types.specs.Environments.{DeclaredEnv, environments_of}
use Rattle.cedar_types.specs.Environments.RequestEnvs.{Env, Declared, Undeclared, is_partial}
use Rattle.cedar_types.specs.Errors.{Finding}
use Rattle.cedar_types.specs.Extensions.Functions.{table_fault, function_named}
use Rattle.cedar_typing.specs.Capabilities.{Caps, no_caps}
use Rattle.cedar_typing.specs.Eager.{Expectation, gives, refuses, first_expectation, later_expectations}
use Rattle.cedar_typing.specs.Evaluation.Conformance.{IsOneOf, IsEnvironmentOf}
use Rattle.cedar_typing.specs.Judgments.{Judgment, visited}
use Rattle.cedar_typing.specs.Rules.{rules, rules_within, rules_all, rules_fields}
use Rattle.cedar_typing.specs.Rules.Attributes.{attribute_of, has_decides, get_decides, has_form, get_form}
use Rattle.cedar_typing.specs.Rules.Binary.{binary_form}
use Rattle.cedar_typing.specs.Rules.Calls.{arguments, return_type, call_form}
use Rattle.cedar_typing.specs.Rules.Chains.{chain_form}
use Rattle.cedar_typing.specs.Rules.Records.{field_keys, record_form}
use Rattle.cedar_typing.specs.Rules.Sets.{set_form}
use Rattle.cedar_typing.specs.Rules.Leaves.{leaf_rules, unknown_rules, leaf_missing, unknown_fails, variable_type, type_of_literal}
use Rattle.cedar_typing.specs.Rules.Leaves.{known_entity_type, unknown_entity_type, LeafRule, leaf, LeafRecovery, UnknownRecovery}
use Rattle.cedar_typing.specs.Rules.ShortCircuit.{conjunction, disjunction}
use Rattle.cedar_typing.specs.Rules.Unary.{unary_form, like_form, is_form}
use Rattle.cedar_typing.specs.Setting.{Setting}
use Rattle.cedar_typing.specs.TypeEnv.{TypeEnv}
use Rattle.cedar_typing.specs.TypeTests.{is_record as is_record_type}
use Rattle.cedar_typing.specs.TypedExpr.{Source, TypedTree, Mark, annotation, place_of}
use Rattle.cedar_typing.proofs.Agreement.Induction.{agrees_within}
use Rattle.cedar_typing.proofs.Agreement.Operators.{unary_marked, binary_marked}
use Rattle.cedar_typing.proofs.Agreement.Parts.{Marks}
use Rattle.cedar_typing.proofs.KeptTypes.Calls.{returns_kept, call_kept}
use Rattle.cedar_typing.proofs.KeptTypes.Chains.{chain_kept}
use Rattle.cedar_typing.proofs.KeptTypes.Records.{record_kept}
use Rattle.cedar_typing.proofs.KeptTypes.Sets.{set_kept}
use Rattle.cedar_typing.proofs.KeptTypes.Eager.{KeptForm, KeepsAll, none_kept, more_kept, form_kept, decided_type, one_operand_kept}
use Rattle.cedar_typing.proofs.KeptTypes.Eager.{two_operands_kept}
use Rattle.cedar_typing.proofs.KeptTypes.Keeping.{HasKept, IsKeeping, pick, truth_value_kept}
use Rattle.cedar_typing.proofs.KeptTypes.Operators.{unary_kept, unary_failed_kept, binary_kept, binary_failed_kept, like_kept, is_kept}
use Rattle.cedar_typing.proofs.KeptTypes.Rules.{KeepsTypes, short_circuit_kept, if_kept}

module _ (Kept : Ty → Type 0) (env : TypeEnv) (keeps : IsKeeping Kept env) where
  -- ---- leaves

  entity_kept : (u : Uid) → HasKept Kept (literal_type env.schema u)
  entity_kept u = go (declares_entity env.schema u)
    where
      go : (b : Bool) → HasKept Kept (if b then Some (TEntity (u.entity_type ∷ [])) else None)
      go true = keeps.entities u.entity_type
      go false = tt

  known_kept : (o p : Option Ty) → HasKept Kept o → HasKept Kept p → HasKept Kept (known_entity_type o p)
  known_kept None p h n = n
  known_kept (Some t) p h n = h

  unknown_type_kept : (m : ValidationMode) (u : Uid) → HasKept Kept (unknown_entity_type m u)
  unknown_type_kept ValidationMode.Strict u = tt
  unknown_type_kept ValidationMode.Permissive u = tt
  unknown_type_kept ValidationMode.Partial u = keeps.entities u.entity_type

  literal_kept : (x : Lit) → HasKept Kept (type_of_literal env x)
  literal_kept (bool b) = truth_value_kept Kept env keeps b
  literal_kept (long n) = keeps.longs
  literal_kept (string t) = keeps.strings
  literal_kept (entity u) =
      known_kept (literal_type env.schema u) (unknown_entity_type env.mode u) (entity_kept u)
      (unknown_type_kept env.mode u)

  -- the type environment with this request environment
  abbrev in_environment : Env → TypeEnv
  in_environment r =
      record {
        schema = env.schema;
        mode = env.mode;
        request_env = r;
        overloaded_types =
            env.overloaded_types;
        policy = env.policy;
      }

  declared_kept : (d : DeclaredEnv) (ps rs : Option Path) → IsOneOf d (environments_of env.schema.actions)
      → (x : Var) → HasKept Kept (variable_type (in_environment (Declared d ps rs)) x)
  declared_kept d ps rs i Var.Principal = keeps.entities d.principal
  declared_kept d ps rs i Var.Action = entity_kept d.action
  declared_kept d ps rs i Var.Resource = keeps.entities d.resource
  declared_kept d ps rs i Var.Context = keeps.contexts d i

  variable_kept : (r : Env) → env.request_env ≡ r → IsEnvironmentOf env.schema r → (x : Var) → HasKept Kept (variable_type env x)
  variable_kept (Declared d ps rs) e i x =
      subst (λ r. HasKept Kept (variable_type (in_environment r) x)) (sym e) (declared_kept d ps rs i x)
  variable_kept Undeclared e i x = absurd i

  module _ (m : Written) (node : Mark → TypedTree) (at : (k : Mark) → annotation (node k) ≡ k.ty) (found : Option Ty) where
    leaf_derived : HasKept Kept found → (t : Ty) (c : Caps) (x : TypedTree) → LeafRule found m node t c x → Kept t
    leaf_derived n t c x (leaf e) = subst (HasKept Kept) e n

    leaf_recovered : (x : TypedTree) (es : List Finding) → LeafRecovery found m node x es → HasKept Kept (annotation x)
    leaf_recovered x es (leaf_missing e) = subst (HasKept Kept) (sym (at _)) tt

    leaf_kept : HasKept Kept found → Marks (leaf_rules found m node).derives → KeepsTypes Kept (leaf_rules found m node)
    leaf_kept n h = record { derivations = leaf_derived n; recoveries = leaf_recovered; marks = h }

  unknown_recovery_kept : (n : Path) (m : Written) (x : TypedTree) (es : List Finding) → UnknownRecovery n m x es
      → HasKept Kept (annotation x)
  unknown_recovery_kept n m x es unknown_fails = tt

  unknown_kept : (n : Path) (m : Written) → KeepsTypes Kept (unknown_rules n m)
  unknown_kept n m = record { derivations = λ t c x h. absurd h; recoveries = unknown_recovery_kept n m; marks = λ t c x h. absurd h }

  -- ---- `has` and `.`

  module _ (m : Written) (prior : Caps) (e : Source) (x : Text) where
    has_decided : (s : Ty) (a : Option (Ty × Bool))
        → HasKept Kept (decided_type (has_decides env x (attribute_of e x) (prior (attribute_of e x)) s a))
    has_decided s (Some a) =
        pick Kept (prior (attribute_of e x) || (a.1 && is_record_type s)) (TBool True) _ (keeps.booleans True)
        (keeps.booleans AnyBool)
    has_decided s None = pick Kept (may_have env.schema s x) (TBool AnyBool) _ (keeps.booleans AnyBool) (keeps.booleans False)

    has_kept : KeptForm Kept (has_form env m prior e x)
    has_kept [] h = keeps.booleans AnyBool
    has_kept (None ∷ ts) h = keeps.booleans AnyBool
    has_kept (Some s ∷ ts) h = has_decided s (attribute_type env.schema s x)

    guarded : (b : Bool) (t : Ty) (fs : List Finding) → Kept t
        → HasKept Kept (decided_type (if b then gives t no_caps else refuses (Some t) fs))
    guarded true t fs h = h
    guarded false t fs h = h

    hidden : (partial may : Bool) (fs : List Finding) → is_partial env.mode ≡ partial
        → HasKept Kept (decided_type (if partial && may then gives TNever no_caps else refuses None fs))
    hidden true true fs n = keeps.hidden n
    hidden true false fs n = tt
    hidden false may fs n = tt

    get_decided : (s : Ty) (a : Option (Ty × Bool)) → Kept s → attribute_type env.schema s x ≡ a
        → HasKept Kept (decided_type (get_decides env m.place x (prior (attribute_of e x)) s a))
    get_decided s (Some a) h q = guarded (a.1 || prior (attribute_of e x)) a.0 _ (keeps.attributes s x a.0 a.1 h q)
    get_decided s None h q = hidden (is_partial env.mode) (may_have env.schema s x) _ refl

    get_kept : KeptForm Kept (get_form env m prior e x)
    get_kept [] h = tt
    get_kept (None ∷ ts) h = tt
    get_kept (Some s ∷ ts) h = get_decided s (attribute_type env.schema s x) h.0 refl

-- ---- all expressions

pub within_kept : (Kept : Ty → Type 0) (d : ℕ) (J : Judgment) → KeepsTypes Kept J → KeepsTypes Kept (visited d J)
within_kept Kept d J s = record {
  derivations = λ t c x h. s.derivations t c x h.1;
  recoveries = λ x es h. s.recoveries x es h.1;
  marks = λ t c x h. s.marks t c x h.1;
}

module _ (Kept : Ty → Type 0) (s : Setting) (keeps : IsKeeping Kept s.env)
    (returns : (n : Path) → HasKept Kept (return_type (function_named n s.functions)))
    (variables : (x : Var) → HasKept Kept (variable_type s.env x)) where
  deeper : {J : Judgment} (d : ℕ) → KeepsTypes Kept J → KeepsTypes Kept (visited (d + 1) J)
  deeper d = within_kept Kept (d + 1) _

  marks_of : (e : Source) (prior : Caps) (d : ℕ) → Marks (rules_within s e prior d).derives
  marks_of e prior d = (agrees_within s e prior d).marks

  mutual
    pub kept_by : (e : Source) (prior : Caps) (d : ℕ) → KeepsTypes Kept (rules_within s e prior d)
    kept_by (lit m x) prior d =
        leaf_kept Kept s.env keeps m (λ k. lit k x) (λ k. refl) _ (literal_kept Kept s.env keeps x) (marks_of (lit m x) prior d)
    kept_by (var m x) prior d =
        leaf_kept Kept s.env keeps m (λ k. var k x) (λ k. refl)
        _ (variables x) (marks_of (var m x) prior d)
    kept_by (slot m x) prior d =
        leaf_kept Kept s.env keeps m (λ k. slot k x) (λ k. refl) _ (keeps.slots x) (marks_of (slot m x) prior d)
    kept_by (unknown m n) prior d = unknown_kept Kept s.env keeps n m
    kept_by (if_then_else m a b e) prior d =
        if_kept Kept s.env keeps m (place_of a) _ _ prior
        (deeper d (kept_by a prior (d + 1))) (λ p. deeper d (kept_by b p (d + 1))) _ (deeper d (kept_by e prior (d + 1)))
        (marks_of (if_then_else m a b e) prior d)
    kept_by (and m a b) prior d =
        short_circuit_kept Kept s.env keeps m (place_of a) _ _ prior
        (deeper d (kept_by a prior (d + 1))) (λ p. deeper d (kept_by b p (d + 1)))
        conjunction (λ k x y. refl) (place_of b) (marks_of (and m a b) prior d)
    kept_by (or m a b) prior d =
        short_circuit_kept Kept s.env keeps m (place_of a) _ _ prior
        (deeper d (kept_by a prior (d + 1))) (λ p. deeper d (kept_by b p (d + 1)))
        disjunction (λ k x y. refl) (place_of b) (marks_of (or m a b) prior d)
    kept_by (unary m o a) prior d =
        one_operand_kept Kept (unary_form m o) (unary_marked m o) (unary_kept Kept s.env keeps m o) (unary_failed_kept Kept s.env keeps m o)
        s.env (place_of a) _ (deeper d (kept_by a prior (d + 1))) (marks_of (unary m o a) prior d)
    kept_by (binary m o a b) prior d =
        two_operands_kept Kept (binary_form s.env m prior a b o) (binary_marked s.env m prior a b o)
        (binary_kept Kept s.env keeps m prior a b o) (binary_failed_kept Kept s.env keeps m prior a b o) s.env (place_of a) (place_of b) _ _
        (deeper d (kept_by a prior (d + 1))) (deeper d (kept_by b prior (d + 1))) (marks_of (binary m o a b) prior d)
    kept_by (call m n ts) prior d =
        let f = call_form s.env s.functions m n (arguments ts) in
        form_kept Kept f (λ k xs. refl) (call_kept Kept s.env keeps s.functions m n (arguments ts) (returns n))
        (λ t h. h) _ (all_kept_by f.goes_on f.expects ts prior (d + 1)) (marks_of (call m n ts) prior d)
    kept_by (get_attr m e x) prior d =
        one_operand_kept Kept (get_form s.env m prior e x) (λ k xs. refl) (get_kept Kept s.env keeps m prior e x) (λ t h. h)
        s.env (place_of e) _ (deeper d (kept_by e prior (d + 1))) (marks_of (get_attr m e x) prior d)
    kept_by (has_attr m e x) prior d =
        one_operand_kept Kept (has_form s.env m prior e x) (λ k xs. refl) (has_kept Kept s.env keeps m prior e x) (λ t h. h)
        s.env (place_of e) _ (deeper d (kept_by e prior (d + 1))) (marks_of (has_attr m e x) prior d)
    kept_by (ext_has_attr m a x xs) prior d =
        one_operand_kept Kept (chain_form s.env m prior a x xs) (λ k ys. refl) (chain_kept Kept s.env keeps m prior a x xs) (λ t h. h)
        s.env (place_of a) _ (deeper d (kept_by a prior (d + 1))) (marks_of (ext_has_attr m a x xs) prior d)
    kept_by (like m a p) prior d =
        one_operand_kept Kept (like_form m p) (λ k xs. refl) (like_kept Kept s.env keeps m p) (λ t h. h)
        s.env (place_of a) _ (deeper d (kept_by a prior (d + 1))) (marks_of (like m a p) prior d)
    kept_by (is_type m a n) prior d =
        one_operand_kept Kept (is_form m n) (λ k xs. refl) (is_kept Kept s.env keeps m n) (λ t h. h)
        s.env (place_of a) _ (deeper d (kept_by a prior (d + 1))) (marks_of (is_type m a n) prior d)
    kept_by (set_of m ts) prior d =
        form_kept Kept (set_form s.env m) (λ k xs. refl) (set_kept Kept s.env keeps m)
        (λ t h. h) _ (all_kept_by true [] ts prior (d + 1)) (marks_of (set_of m ts) prior d)
    kept_by (record_of m fs) prior d =
        form_kept Kept (record_form s.env m (field_keys fs)) (λ k xs. refl) (record_kept Kept s.env keeps m (field_keys fs))
        (λ t h. h) _ (fields_kept_by fs prior (d + 1)) (marks_of (record_of m fs) prior d)

    -- expressions one after another have kept types
    pub all_kept_by : (goes_on : Bool) (qs : List Expectation) (ts : Trees Written) (prior : Caps) (d : ℕ)
        → KeepsAll Kept (rules_all s goes_on qs ts prior d)
    all_kept_by goes_on qs no_trees prior d = none_kept Kept
    all_kept_by goes_on qs (tree e ts) prior d =
        more_kept Kept s.env goes_on (first_expectation qs) (place_of e)
        _ (within_kept Kept d _ (kept_by e prior d))
        _ (all_kept_by goes_on (later_expectations qs) ts prior d)

    -- the values of fields have kept types
    pub fields_kept_by : (fs : Fields Written) (prior : Caps) (d : ℕ) → KeepsAll Kept (rules_fields s fs prior d)
    fields_kept_by no_fields prior d = none_kept Kept
    fields_kept_by (field k e fs) prior d =
        more_kept Kept s.env false None (place_of e) _ (within_kept Kept d _ (kept_by e prior d)) _ (fields_kept_by fs prior d)

  pub types_kept_by : (e : Source) (prior : Caps) (d : ℕ) → KeepsTypes Kept (rules s e prior d)
  types_kept_by e prior d = within_kept Kept d _ (kept_by e prior d)

-- each type is kept, with a table without faults, in an environment of the schema
module _ (Kept : Ty → Type 0) (s : Setting) (keeps : IsKeeping Kept s.env) (table_faults : table_fault s.functions ≡ None)
    (environment : IsEnvironmentOf s.env.schema s.env.request_env) where
  variables : (x : Var) → HasKept Kept (variable_type s.env x)
  variables x = variable_kept Kept s.env keeps s.env.request_env refl environment x

  pub kept_within : (e : Source) (prior : Caps) (d : ℕ) → KeepsTypes Kept (rules_within s e prior d)
  kept_within e prior d = kept_by Kept s keeps (returns_kept Kept s.env keeps s.functions table_faults) variables e prior d

  pub types_are_kept : (e : Source) (prior : Caps) (d : ℕ) → KeepsTypes Kept (rules s e prior d)
  types_are_kept e prior d = within_kept Kept d _ (kept_within e prior d)
