-- Validation that finds no error, or wrong members alone: the check of the policy passes, and the
-- promises follow.
use Rattle.std.proofs.Common.{◌≡◌, ◌≤◌, inl, inr, ℕ, Bool, true, false, List, [], ◌∷◌, ◌++◌, length, None, refl, sym, ap, subst, arith}
use Rattle.std.proofs.Common.{append_assoc}
use Rattle.std.specs.Prelude.{IsPermutation, cond, ◌↔◌}
use Rattle.std.proofs.lemmas.List.Sorted.{IsPermutation-sym, length_permutation}
use Rattle.cedar_types.specs.declared.base.types.ValidationMode.{ValidationMode}
use Rattle.cedar_types.specs.declared.base.types.ValidationMode.TheVariants.{Strict, Permissive, Partial}
use Rattle.cedar_types.specs.Errors.{Finding, Warning, impossible_policy, invalid_action_application}
use Rattle.cedar_types.specs.Extensions.Functions.{table_fault}
use Rattle.cedar_types.specs.Templates.Findings.{unknown_types, unknown_actions, wrong_members}
use Rattle.cedar_types.specs.Lemmas.Comparisons.{and_both}
use Rattle.cedar_types.specs.Environments.Linking.{checked_envs}
use Rattle.cedar_types.specs.Environments.RequestEnvs.{Env, is_partial}
use Rattle.cedar_types.specs.Schemas.{Schema, has_fault}
use Rattle.cedar_types.specs.Templates.{PlainTemplate, condition_of}
use Rattle.cedar_typing.specs.Capabilities.{no_caps}
use Rattle.cedar_typing.specs.Evaluation.Conformance.{IsOneOf}
use Rattle.cedar_typing.specs.Modes.{IsSoundMode, IsFormedFor}
use Rattle.cedar_typing.specs.PolicyCheck.{Verdict, succeeds, irrelevant, fails, PolicyChecks}
use Rattle.cedar_typing.specs.PolicyCheck.Outcome.{is_silent, passes, errors_in, VerdictsOf, all_pass, all_errors, impossible, warnings_of}
use Rattle.cedar_typing.specs.Soundness.Policies.{Basis, IsNamedBySchema, setting_on, CheckedOn, AreBothKept}
use Rattle.cedar_typing.specs.Rules.Laws.{IsCut}
use Rattle.cedar_typing.specs.Setting.{Setting}
use Rattle.cedar_typing.specs.Silence.{HasNoUnknowns, IsWellNamed, IsSettled}
use Rattle.cedar_typing.specs.TypedExpr.{Source}
use Rattle.cedar_typing.proofs.Basics.Members.{reordered}
use Rattle.cedar_typing.proofs.Refinement.Parts.{nil_left, nil_right}
use Rattle.cedar_typing.proofs.Soundness.Policies.{promises_are_kept}
use Rattle.cedar_typing.proofs.Silence.Checks.{silent_cut}
use Rattle.cedar_typing.proofs.Silence.Names.{condition_is_well_named}
use Rattle.cedar_typing.proofs.Silence.Policies.{checked_of_schema}
use Rattle.cedar_typechecker.specs.Applications.{has_fitting_action, application_warning}
use Rattle.cedar_typechecker.specs.Levels.Outcome.{ChecksOn, name_findings, application_warnings, ValidationOutcome}
use Rattle.cedar_typechecker.specs.Slices.Validation.{IsCutNowhere, WarnedIsNeverTrue}
use Rattle.cedar_typechecker.specs.Validations.{HasWrongMembersAlone, ValidationsAreKept}

-- ---- lists

module _ {A : Type 0} where
  pub nothing_in : (xs : List A) → ((x : A) → IsOneOf x xs → ⊥) → xs ≡ []
  nothing_in [] h = refl
  nothing_in (x ∷ xs) h = absurd (h x (inl refl))

  -- a member of two lists that is not in the first is in the second
  of_second : (x : A) (xs ys : List A) → (IsOneOf x xs → ⊥) → IsOneOf x (xs ++ ys) → IsOneOf x ys
  of_second x [] ys f h = h
  of_second x (z ∷ xs) ys f (inl e) = absurd (f (inl e))
  of_second x (z ∷ xs) ys f (inr h) = of_second x xs ys (λ k. f (inr k)) h

  -- a list to which members are added without making it longer gains none
  none_added : (xs ys : List A) → length (xs ++ ys) ≤ length xs → ys ≡ []
  none_added [] [] h = refl
  none_added [] (y ∷ ys) h = absurd (omega (arith, h))
  none_added (x ∷ xs) ys h = none_added xs ys (omega (arith, h))

  -- a list that is no longer than a part of it has nothing beside the part
  no_more : (all xs ys zs : List A) → IsPermutation all ((xs ++ ys) ++ zs) → length all ≤ length xs → ys ++ zs ≡ []
  no_more all xs ys zs p few =
      none_added xs (ys ++ zs)
      (subst (λ (es : List A). length es ≤ length xs) (append_assoc xs ys zs)
      (subst (λ (n : ℕ). n ≤ length xs) (sym (length_permutation all ((xs ++ ys) ++ zs) p)) few))

-- ---- verdicts

-- a verdict without errors passes, if a failure without an error is a cut, and nothing is cut
silent_passes : (s : Setting) (e : Source) → (IsCut s e no_caps 1 → ⊥)
    → ((es : List Finding) → PolicyChecks s e (fails es) → is_silent es ≡ true → IsCut s e no_caps 1)
    → (v : Verdict) → PolicyChecks s e v → errors_in v ≡ [] → passes v ≡ true
silent_passes s e uncut cut (succeeds x) c q = refl
silent_passes s e uncut cut (irrelevant es x) c q = ap is_silent q
silent_passes s e uncut cut (fails es) c q = absurd (uncut (cut es c (ap is_silent q)))

module _ (b : Basis) (t : PlainTemplate) where
  pub all_passing : (envs : List Env) (vs : List Verdict) → VerdictsOf (ChecksOn b t) envs vs
      → ((env : Env) → IsOneOf env envs → (v : Verdict) → ChecksOn b t env v → errors_in v ≡ [] → passes v ≡ true)
      → all_errors vs ≡ [] → all_pass vs ≡ true
  all_passing [] [] c f q = refl
  all_passing [] (v ∷ vs) c f q = absurd c
  all_passing (env ∷ envs) [] c f q = absurd c
  all_passing (env ∷ envs) (v ∷ vs) c f q =
      and_both (passes v) (all_pass vs) (f env (inl refl) v c.0 (nil_left (errors_in v) (all_errors vs) q))
      (all_passing envs vs c.1 (λ e k. f e (inr k)) (nil_right (errors_in v) (all_errors vs) q))

-- ---- warnings

other_slip : (p r : Bool) → impossible_policy ≡ invalid_action_application p r → ⊥
other_slip p r e = cc

module _ (s : Schema) (t : PlainTemplate) where
  -- the warning on the scope is another one than that on impossible policies
  not_of_scope : (c : Bool) → IsOneOf (impossible t) (cond c [] (application_warning s t ∷ [])) → ⊥
  not_of_scope true h = h
  not_of_scope false (inl e) = other_slip _ _ (ap (λ (w : Warning). w.slip) e)
  not_of_scope false (inr h) = h

  not_among : (m : ValidationMode) → IsOneOf (impossible t) (application_warnings m s t) → ⊥
  not_among Strict h = not_of_scope (has_fitting_action s t) h
  not_among Permissive h = not_of_scope (has_fitting_action s t) h
  not_among Partial h = h

  -- ---- names

  -- if the passes find nothing, all names are known
  both_known : unknown_types s t ++ unknown_actions s t ≡ [] → IsNamedBySchema s t
  both_known e = record {
    types = nil_left (unknown_types s t) (unknown_actions s t) e;
    actions = nil_right (unknown_types s t) (unknown_actions s t) e;
  }

  of_findings : wrong_members s t ++ (unknown_types s t ++ unknown_actions s t) ≡ []
      → IsNamedBySchema s t
  of_findings e =
      both_known (nil_right (wrong_members s t) (unknown_types s t ++ unknown_actions s t) e)

  -- in the modes in which the passes run, all names are known if they find nothing
  pub names_known : (m : ValidationMode) → is_partial m ≡ false → name_findings m s t ≡ [] → IsNamedBySchema s t
  names_known Strict p e = of_findings e
  names_known Permissive p e = of_findings e
  names_known Partial p e = cc

  -- if there are no more errors than wrong members, all names are known, and no check finds an
  -- error
  both_none : (errors types : List Finding)
      → IsPermutation errors ((wrong_members s t ++ (unknown_types s t ++ unknown_actions s t)) ++ types)
      → length errors ≤ length (wrong_members s t) → IsNamedBySchema s t × (types ≡ [])
  both_none errors types given few =
      let unknown : List Finding = unknown_types s t ++ unknown_actions s t in
      let others = no_more errors (wrong_members s t) unknown types given few in
      (both_known (nil_left unknown types others), nil_right unknown types others)

  wrong_members_alone : (m : ValidationMode) → is_partial m ≡ false → (errors types : List Finding)
      → IsPermutation errors (name_findings m s t ++ types) → length errors ≤ length (wrong_members s t)
      → IsNamedBySchema s t × (types ≡ [])
  wrong_members_alone Strict p errors types given few = both_none errors types given few
  wrong_members_alone Permissive p errors types given few = both_none errors types given few
  wrong_members_alone Partial p errors types given few = cc

-- ---- the outcome of the check

-- the checks find no error if the set of their errors is empty
pub none_of_checks : (types all : List Finding) → ((e : Finding) → IsOneOf e types ↔ IsOneOf e all) → types ≡ [] → all ≡ []
none_of_checks types all same none = nothing_in all (λ e h. subst (IsOneOf e) none ((same e).1 h))

module _ (b : Basis) (t : PlainTemplate) (listed : List Env) (verdicts : List Verdict)
    (in_some_order : IsPermutation listed (checked_envs b.schema b.mode t))
    (checked : VerdictsOf (ChecksOn b t) listed verdicts) where
  -- the outcome of the check, if the sets are empty before it
  pub checked_alone : (answer : Bool) → all_pass verdicts ≡ answer
      → CheckedOn b t answer [] (all_errors verdicts) [] (warnings_of t verdicts)
  checked_alone answer e = record {
    listed = listed;
    verdicts = verdicts;
    in_some_order = in_some_order;
    checked = checked;
    answered = sym e;
    errors_added = λ x. (λ h. h, λ h. h);
    warnings_added = λ x. (λ h. h, λ h. h);
  }

  -- the warning that the policy is impossible comes from the check
  due : (warnings : List Warning) → warnings ≡ application_warnings b.mode b.schema t ++ warnings_of t verdicts
      → IsOneOf (impossible t) warnings → IsOneOf (impossible t) (warnings_of t verdicts)
  due warnings warned h =
      of_second (impossible t) (application_warnings b.mode b.schema t) (warnings_of t verdicts)
      (not_among b.schema t b.mode) (subst (IsOneOf (impossible t)) warned h)

  pub alone : CheckedOn b t (all_pass verdicts) [] (all_errors verdicts) [] (warnings_of t verdicts)
  alone = checked_alone (all_pass verdicts) refl

  -- so the promise of the check's warning is one of all warnings
  pub warned_is_never_true : AreBothKept b t (all_pass verdicts) [] (warnings_of t verdicts)
      → (warnings : List Warning)
      → warnings ≡ application_warnings b.mode b.schema t ++ warnings_of t verdicts
      → WarnedIsNeverTrue b t warnings
  warned_is_never_true both warnings warned absent there k alone_in_scope world i =
      both.never_true absent (due warnings warned there) k alone_in_scope world i

  module _ (sound : IsSoundMode b.mode) (formed : IsFormedFor b.mode b.schema) (schema : has_fault b.schema ≡ false)
      (functions : table_fault b.table.functions ≡ None) (no_errors : all_errors verdicts ≡ [])
      (names : IsNamedBySchema b.schema t) (uncut : IsCutNowhere b t) (unknowns : HasNoUnknowns (condition_of t)) where
    well_named : IsWellNamed b.schema (condition_of t)
    well_named =
        condition_is_well_named b.schema t
        (record { unknowns = unknowns; types = names.types; actions = names.actions })

    -- no part fails without an error in the environments of the policy
    settled : (env : Env) → IsOneOf env (checked_envs b.schema b.mode t) → IsSettled (setting_on b t.id env)
    settled env k = record {
      faultless = record { mode = sound; schema = schema; formed = formed; functions = functions };
      environment = checked_of_schema b.schema b.mode sound t env k;
    }

    passes_there : (env : Env) → IsOneOf env (checked_envs b.schema b.mode t) → (v : Verdict)
        → ChecksOn b t env v → errors_in v ≡ [] → passes v ≡ true
    passes_there env k =
        silent_passes (setting_on b t.id env) (condition_of t) (uncut env k)
        (silent_cut (setting_on b t.id env) (settled env k) (condition_of t) well_named)

    passing : all_pass verdicts ≡ true
    passing =
        all_passing b t listed verdicts checked
        (λ env k. passes_there env
        (reordered (λ z. IsOneOf z (checked_envs b.schema b.mode t)) (checked_envs b.schema b.mode t) listed
        (IsPermutation-sym listed (checked_envs b.schema b.mode t) in_some_order) (λ z h. h) env k))
        no_errors

    pub passed : CheckedOn b t true [] (all_errors verdicts) [] (warnings_of t verdicts)
    passed = checked_alone true passing

-- ---- the promises

-- if there are wrong members alone, all names are known and the check passes
passes_alone : (b : Basis) (t : PlainTemplate) (errors : List Finding) (warnings : List Warning)
    (o : ValidationOutcome b t errors warnings)
    → has_fault b.schema ≡ false → IsFormedFor b.mode b.schema → table_fault b.table.functions ≡ None
    → IsSoundMode b.mode → HasWrongMembersAlone b.schema t errors
    → IsCutNowhere b t → HasNoUnknowns (condition_of t)
    → IsNamedBySchema b.schema t
    × CheckedOn b t true [] (all_errors o.verdicts) [] (warnings_of t o.verdicts)
passes_alone b t errors warnings o schema formed functions sound few uncut unknowns =
    let known = wrong_members_alone b.schema t b.mode sound errors o.type_errors o.given few in
    let none = none_of_checks o.type_errors (all_errors o.verdicts) o.types known.1 in (
      known.0,
      passed b t o.listed o.verdicts o.in_some_order o.checked sound formed schema functions none known.0 uncut unknowns,
    )

pub validations_are_kept : ValidationsAreKept
validations_are_kept b t schema formed functions errors warnings o = record {
  silent = λ few uncut k world w i.
      let p = passes_alone b t errors warnings o schema formed functions k.mode few uncut w.no_unknowns in
      (promises_are_kept b t schema formed functions true [] _ [] _ p.1).safe refl k p.0 world w i;
  never_true =
      warned_is_never_true b t o.listed o.verdicts o.in_some_order o.checked
      (promises_are_kept b t schema formed functions (all_pass o.verdicts) [] _ [] _
      (alone b t o.listed o.verdicts o.in_some_order o.checked)) warnings o.warned;
}
