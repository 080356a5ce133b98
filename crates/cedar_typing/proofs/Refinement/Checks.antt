-- Strict is kept in Permissive: the check of a condition, and of a policy in all its environments.
use Rattle.std.proofs.Common.{◌≡◌, Bool, true, false, List, [], ◌∷◌, ◌++◌, None, refl, sym, ◌∙◌, ap, subst}
use Rattle.std.specs.Prelude.{IsPermutation}
use Rattle.std.specs.List.{list_all, AllByRecursion}
use Rattle.std.proofs.lemmas.List.Sorted.{IsPermutation-sym}
use Rattle.cedar_types.specs.declared.base.types.BoolType.TheVariants.{False}
use Rattle.cedar_types.specs.declared.base.types.ValidationMode.TheVariants.{Strict, Permissive}
use Rattle.cedar_types.specs.Types.{TBool}
use Rattle.cedar_types.specs.Errors.{Finding, Warning}
use Rattle.cedar_types.specs.Extensions.Functions.{table_fault}
use Rattle.cedar_types.specs.Environments.Linking.{checked_envs}
use Rattle.cedar_types.specs.Environments.RequestEnvs.{Env}
use Rattle.cedar_types.specs.Lemmas.Comparisons.{and_both}
use Rattle.cedar_types.specs.Schemas.Formed.{has_formed_types}
use Rattle.cedar_types.specs.Templates.{PlainTemplate, condition_of}
use Rattle.cedar_typing.specs.Capabilities.{no_caps}
use Rattle.cedar_typing.specs.Evaluation.Conformance.{IsOneOf}
use Rattle.cedar_typing.specs.PolicyCheck.{Verdict, succeeds, irrelevant, fails, PolicyChecks, check_true, check_false, check_refused_false}
use Rattle.cedar_typing.specs.PolicyCheck.{check_refused, check_cut, SameVerdict, same_success, same_irrelevant, same_failure}
use Rattle.cedar_typing.specs.PolicyCheck.Outcome.{is_silent, passes, errors_in, VerdictsOf, all_errors, Adds, PolicyOutcome}
use Rattle.cedar_typing.specs.Refinement.{in_mode, HasFormedTypes, StrictCheckIsKept, basis_in_mode, EnvironmentsAreKept, HasSameVerdicts}
use Rattle.cedar_typing.specs.Refinement.{StrictVerdictsAreKept, StrictPolicyIsKept, StrictPassesInPermissive}
use Rattle.cedar_typing.specs.Soundness.Policies.{Basis, setting_on, CheckedOn}
use Rattle.cedar_typing.specs.TypeTests.{bool_types}
use Rattle.cedar_typing.specs.TypedExpr.{place_of}
use Rattle.cedar_typing.proofs.Basics.Members.{AreAll, by_recursion, reordered}
use Rattle.cedar_typing.proofs.Policies.EachEnvironment.{each_has_passing}
use Rattle.cedar_typing.proofs.Policies.Verdicts.{none, verdict_at_most, any_order}
use Rattle.cedar_typing.proofs.Refinement.Formed.{formed_by_schema}
use Rattle.cedar_typing.proofs.Refinement.Induction.{strict_is_kept, refines}
use Rattle.cedar_typing.proofs.Refinement.Parts.{operand_refines}
use Rattle.cedar_typing.proofs.Silence.Policies.{checked_of_schema}

-- ---- one check

no_errors : (es : List Finding) → is_silent es ≡ true → es ≡ []
no_errors [] q = refl
no_errors (e ∷ es) q = cc

-- a list of errors is empty if it is silent in some order
none_before : (es fs : List Finding) → IsPermutation es fs → is_silent fs ≡ true → es ≡ []
none_before es fs p q = none es (IsPermutation-sym es [] (subst (IsPermutation es) (no_errors fs q) p))

pub strict_check_is_kept : StrictCheckIsKept
strict_check_is_kept s formed e v q (check_true t c {e' = x} d a n) =
    check_true t c ((strict_is_kept s formed e no_caps 1).derived t c x d) a n
strict_check_is_kept s formed e v q (check_false c {e' = x} d) =
    check_false c ((strict_is_kept s formed e no_caps 1).derived (TBool False) c x d)
strict_check_is_kept s formed e v q (check_refused_false {e' = x} {es = es} {es' = fs} (c, o) n p) =
    check_refused_false (
      c,
      operand_refines _ _ (refines s formed e no_caps 1) (in_mode Strict s).env (in_mode Permissive s).env
          bool_types (place_of e) false c x es o (none_before es fs p q),
    ) n p
strict_check_is_kept s formed e v q (check_refused r n p) = cc
strict_check_is_kept s formed e v q (check_cut c p) = cc

-- ---- the verdicts of a policy

pub environments_are_kept : EnvironmentsAreKept
environments_are_kept s t = refl

passes_too : (u v : Verdict) → SameVerdict u v → passes u ≡ true → passes v ≡ true
passes_too u v same_success q = refl
passes_too u v (same_irrelevant {es = es} {es' = fs} p) q =
    ap is_silent (none fs (subst (λ ds. IsPermutation ds fs) (no_errors es q) p))
passes_too u v (same_failure p) q = cc

module _ (b : Basis) (t : PlainTemplate) (formed : has_formed_types b.schema ≡ true) (functions : table_fault b.table.functions ≡ None)
    (errors errors' : List Finding) (old new : List Warning) (o : CheckedOn (basis_in_mode Strict b) t true errors errors' old new) where
  abbrev StrictChecks : Env → Verdict → Type 0
  StrictChecks env = PolicyChecks (setting_on (basis_in_mode Strict b) t.id env) (condition_of t)

  abbrev PermissiveChecks : Env → Verdict → Type 0
  PermissiveChecks env = PolicyChecks (setting_on (basis_in_mode Permissive b) t.id env) (condition_of t)

  abbrev envs : List Env
  envs = checked_envs b.schema Strict t

  there : (e : Env) → IsOneOf e envs → HasFormedTypes (setting_on b t.id e)
  there e i = formed_by_schema (setting_on b t.id e) formed functions (checked_of_schema b.schema Strict refl t e i)

  -- the environment has a verdict in Strict that passes
  passing : (e : Env) → IsOneOf e envs → (v : Verdict) × StrictChecks e v × (passes v ≡ true)
  passing e i = each_has_passing StrictChecks passes o.listed envs o.verdicts o.in_some_order o.checked (sym o.answered) e i

  -- each Strict verdict of the environment passes
  pub all_passing : (e : Env) → IsOneOf e envs → (v : Verdict) → StrictChecks e v → passes v ≡ true
  all_passing e i v h =
      let u = passing e i in
      passes_too u.0 v (verdict_at_most (setting_on (basis_in_mode Strict b) t.id e) (condition_of t) u.0 v u.1 h) u.2

  kept : (e : Env) → IsOneOf e envs → (v : Verdict) → StrictChecks e v → PermissiveChecks e v
  kept e i v h = strict_check_is_kept (setting_on b t.id e) (there e i) (condition_of t) v (all_passing e i v h) h

  back : (e : Env) → IsOneOf e envs → (v : Verdict) → PermissiveChecks e v → StrictChecks e v
  back e i v h =
      let u = passing e i in
      let same = verdict_at_most (setting_on (basis_in_mode Permissive b) t.id e) (condition_of t) u.0 v (kept e i u.0 u.1) h in
      any_order (setting_on (basis_in_mode Strict b) t.id e) (condition_of t) u.0 v u.1 same

  pub same_verdicts : HasSameVerdicts b t
  same_verdicts e i v = (kept e i v, back e i v)

pub strict_verdicts_are_kept : StrictVerdictsAreKept
strict_verdicts_are_kept b t formed functions errors errors' old new o = same_verdicts b t formed functions errors errors' old new o

-- ---- all environments

-- a property of each environment of a list holds of each in another order
module _ (P : Env → Type 0) where
  pub in_order_too : (listed es : List Env) → IsPermutation listed es → AreAll P es → AllByRecursion P listed
  in_order_too listed es m f = by_recursion P listed (reordered P es listed (IsPermutation-sym listed es m) f)

pub verdicts_moved : (C D : Env → Verdict → Type 0) (es : List Env) (vs : List Verdict)
    → AllByRecursion (λ e. (v : Verdict) → C e v → D e v) es → VerdictsOf C es vs → VerdictsOf D es vs
verdicts_moved C D [] [] f h = tt
verdicts_moved C D [] (v ∷ vs) f h = absurd h
verdicts_moved C D (e ∷ es) [] f h = absurd h
verdicts_moved C D (e ∷ es) (v ∷ vs) f h = (f.0 v h.0, verdicts_moved C D es vs f.1 h.1)

-- a policy's outcome stands by other checks, if these give the same verdicts
outcome_moved : (C D : Env → Verdict → Type 0) (es : List Env) (t : PlainTemplate)
    → ((e : Env) → IsOneOf e es → (v : Verdict) → C e v → D e v)
    → (answer : Bool) (errors errors' : List Finding) (old new : List Warning)
    → PolicyOutcome C es t answer errors errors' old new → PolicyOutcome D es t answer errors errors' old new
outcome_moved C D es t f answer errors errors' old new o = record {
  listed = o.listed;
  verdicts = o.verdicts;
  in_some_order = o.in_some_order;
  checked =
      verdicts_moved C D o.listed o.verdicts
      (in_order_too (λ e. (v : Verdict) → C e v → D e v) o.listed es o.in_some_order f) o.checked;
  answered = o.answered;
  errors_added = o.errors_added;
  warnings_added = o.warnings_added;
}

pub strict_policy_is_kept : StrictPolicyIsKept
strict_policy_is_kept b t formed functions errors errors' old new o answer found found' before after =
    let same = same_verdicts b t formed functions errors errors' old new o in (
      λ h. outcome_moved _ _ (checked_envs b.schema Strict t) t (λ e i v. (same e i v).0) answer found found' before after h,
      λ h. outcome_moved _ _ (checked_envs b.schema Strict t) t (λ e i v. (same e i v).1) answer found found' before after h,
    )

-- verdicts that pass have no errors
all_passed : (C : Env → Verdict → Type 0) (es : List Env) (vs : List Verdict)
    → AllByRecursion (λ e. (v : Verdict) → C e v → passes v ≡ true) es → VerdictsOf C es vs → list_all passes vs ≡ true
all_passed C [] [] f h = refl
all_passed C [] (v ∷ vs) f h = absurd h
all_passed C (e ∷ es) [] f h = absurd h
all_passed C (e ∷ es) (v ∷ vs) f h = and_both (passes v) (list_all passes vs) (f.0 v h.0) (all_passed C es vs f.1 h.1)

silent_verdict : (v : Verdict) → passes v ≡ true → errors_in v ≡ []
silent_verdict (succeeds x) q = refl
silent_verdict (irrelevant es x) q = no_errors es q
silent_verdict (fails es) q = cc

silent_verdicts : (C : Env → Verdict → Type 0) (es : List Env) (vs : List Verdict)
    → AllByRecursion (λ e. (v : Verdict) → C e v → passes v ≡ true) es → VerdictsOf C es vs → all_errors vs ≡ []
silent_verdicts C [] [] f h = refl
silent_verdicts C [] (v ∷ vs) f h = absurd h
silent_verdicts C (e ∷ es) [] f h = absurd h
silent_verdicts C (e ∷ es) (v ∷ vs) f h =
    λ i. silent_verdict v (f.0 v h.0) i ++ silent_verdicts C es vs f.1 h.1 i

pub strict_passes_in_permissive : StrictPassesInPermissive
strict_passes_in_permissive b t formed functions errors errors' old new o answer found found' before after h =
    let p = (strict_policy_is_kept b t formed functions errors errors' old new o answer found found' before after).1 h in
    let C : Env → Verdict → Type 0 = λ e. PolicyChecks (setting_on (basis_in_mode Strict b) t.id e) (condition_of t) in
    let all = in_order_too (λ e. (v : Verdict) → C e v → passes v ≡ true) p.listed (checked_envs b.schema Strict t) p.in_some_order
    (all_passing b t formed functions errors errors' old new o) in (
      p.answered ∙ all_passed C p.listed p.verdicts all p.checked,
      subst (λ es. Adds found es found') (silent_verdicts C p.listed p.verdicts all p.checked) p.errors_added,
    )
