-- Validation with levels that finds no error: the check of the policy passes, and both halves of
-- the promise follow.
use Rattle.std.proofs.Common.{◌≡◌, inl, inr, ℕ, true, false, true≢false, None, List, [], ◌∷◌, ◌++◌, refl, sym, subst}
use Rattle.std.specs.Prelude.{IsPermutation}
use Rattle.std.proofs.lemmas.List.Sorted.{IsPermutation-refl}
use Rattle.cedar_types.specs.Errors.{Finding, Warning}
use Rattle.cedar_types.specs.Extensions.Functions.{table_fault}
use Rattle.cedar_types.specs.Schemas.{has_fault}
use Rattle.cedar_types.specs.Environments.Linking.{checked_envs}
use Rattle.cedar_types.specs.Environments.RequestEnvs.{Env}
use Rattle.cedar_types.specs.Templates.{PlainTemplate, condition_of}
use Rattle.cedar_typing.specs.Capabilities.{no_caps}
use Rattle.cedar_typing.specs.Evaluation.Conformance.{IsOneOf}
use Rattle.cedar_typing.specs.Modes.{IsSoundMode, IsFormedFor}
use Rattle.cedar_typing.specs.PolicyCheck.{Verdict, fails, PolicyChecks, SameVerdict, same_success, same_irrelevant}
use Rattle.cedar_typing.specs.PolicyCheck.{same_failure, check_cut}
use Rattle.cedar_typing.specs.PolicyCheck.Outcome.{passes, VerdictsOf, all_pass, all_errors, warnings_of}
use Rattle.cedar_typing.specs.Soundness.Policies.{Basis, IsNamedBySchema, setting_on, CheckedOn}
use Rattle.cedar_typing.specs.Rules.Laws.{IsCut}
use Rattle.cedar_typing.specs.Setting.{Setting}
use Rattle.cedar_typing.specs.Silence.{HasNoUnknowns}
use Rattle.cedar_typing.specs.TypedExpr.{Source}
use Rattle.cedar_typing.proofs.Basics.Members.{reordered}
use Rattle.cedar_typing.proofs.Policies.EachEnvironment.{each_has_passing}
use Rattle.cedar_typing.proofs.Refinement.Parts.{nil_left, nil_right}
use Rattle.cedar_typing.proofs.Soundness.Policies.{promises_are_kept}
use Rattle.cedar_typing.proofs.Policies.Verdicts.{none, verdict_at_most}
use Rattle.cedar_typechecker.specs.Levels.Outcome.{ChecksOn, levels_on, IsErrorInSome, name_findings, LevelOutcome}
use Rattle.cedar_typechecker.specs.Levels.Setting.{LevelSetting}
use Rattle.cedar_typechecker.specs.Slices.Policies.{VerdictIsWithin, PolicyIsWithinLevel}
use Rattle.cedar_typechecker.specs.Slices.Validation.{IsCutNowhere, PassingIsCutNowhere, OutcomesAreKept}
use Rattle.cedar_typechecker.proofs.Slices.Policies.{passing_needs_slice_alone}
use Rattle.cedar_typechecker.proofs.Validations.{names_known, none_of_checks, alone, warned_is_never_true, passed}

-- ---- verdicts

-- two verdicts that are the same are within the same level
same_within : (s : LevelSetting) (v w : Verdict) → SameVerdict v w → VerdictIsWithin s v → VerdictIsWithin s w
same_within s v w same_success h = h
same_within s v w (same_irrelevant p) h = h
same_within s v w (same_failure p) h = λ e k. k

module _ (b : Basis) (t : PlainTemplate) (n : ℕ) where
  -- each verdict of the environment is within the level
  abbrev pub IsWithin : Env → Type 0
  IsWithin env = (v : Verdict) → ChecksOn b t env v → VerdictIsWithin (levels_on b t n env) v

  pub listed_within : (envs : List Env) (vs : List Verdict) → VerdictsOf (ChecksOn b t) envs vs
      → ((e : Finding) → IsErrorInSome (levels_on b t n) envs vs e → ⊥)
      → (env : Env) → IsOneOf env envs → IsWithin env
  listed_within [] vs c f env k = absurd k
  listed_within (x ∷ envs) [] c f env k = absurd c
  listed_within (x ∷ envs) (w ∷ vs) c f env (inl q) =
      subst IsWithin (sym q)
      (λ v h. same_within (levels_on b t n x) w v (verdict_at_most (setting_on b t.id x) (condition_of t) w v c.0 h) (λ e k. f e (inl k)))
  listed_within (x ∷ envs) (w ∷ vs) c f env (inr k) =
      listed_within envs vs c.1 (λ e h. f e (inr h)) env k

-- ---- the outcome of the validation

module _ (b : Basis) (t : PlainTemplate) (n : ℕ) (errors : List Finding) (warnings : List Warning)
    (o : LevelOutcome b t n errors warnings) (silent : errors ≡ []) where
  abbrev found : List Finding
  found = name_findings b.mode b.schema t ++ (o.type_errors ++ o.level_errors)

  nothing_found : found ≡ []
  nothing_found = none found (subst (λ es. IsPermutation es found) silent o.given)

  both_empty : o.type_errors ++ o.level_errors ≡ []
  both_empty = nil_right (name_findings b.mode b.schema t) (o.type_errors ++ o.level_errors) nothing_found

  named : IsSoundMode b.mode → IsNamedBySchema b.schema t
  named sound =
      names_known b.schema t b.mode sound
      (nil_left (name_findings b.mode b.schema t) (o.type_errors ++ o.level_errors) nothing_found)

  no_errors : all_errors o.verdicts ≡ []
  no_errors =
      none_of_checks o.type_errors (all_errors o.verdicts) o.types (nil_left o.type_errors o.level_errors both_empty)

  within : PolicyIsWithinLevel b t n
  within =
      reordered (IsWithin b t n) o.listed (checked_envs b.schema b.mode t) o.in_some_order
      (listed_within b t n o.listed o.verdicts o.checked
      (λ e h. subst (IsOneOf e) (nil_right o.type_errors o.level_errors both_empty) ((o.levels e).1 h)))

-- ---- the promises

-- if there is no error, all names are known, the check passes, and the policy is within the level
passes_silently : (b : Basis) (t : PlainTemplate) (n : ℕ) (errors : List Finding)
    (warnings : List Warning) (o : LevelOutcome b t n errors warnings)
    → has_fault b.schema ≡ false → IsFormedFor b.mode b.schema → table_fault b.table.functions ≡ None
    → IsSoundMode b.mode → errors ≡ [] → IsCutNowhere b t
    → HasNoUnknowns (condition_of t)
    → IsNamedBySchema b.schema t
    × CheckedOn b t true [] (all_errors o.verdicts) [] (warnings_of t o.verdicts)
    × PolicyIsWithinLevel b t n
passes_silently b t n errors warnings o schema formed functions sound silent uncut unknowns =
    let names = named b t n errors warnings o silent sound in (
      names,
      passed b t o.listed o.verdicts o.in_some_order o.checked sound formed schema functions
          (no_errors b t n errors warnings o silent) names uncut unknowns,
      within b t n errors warnings o silent,
    )

pub outcomes_are_kept : OutcomesAreKept
outcomes_are_kept b t schema formed functions n errors warnings o = record {
  silent = λ silent uncut k world w i.
      let p = passes_silently b t n errors warnings o schema formed functions k.mode silent uncut w.no_unknowns in
      record {
        safe = (promises_are_kept b t schema formed functions true [] _ [] _ p.1).safe refl k p.0 world w i;
        same = passing_needs_slice_alone b t schema formed functions [] _ [] _ p.1 n k p.0 p.2 world w i;
      };
  never_true =
      warned_is_never_true b t o.listed o.verdicts o.in_some_order o.checked
      (promises_are_kept b t schema formed functions (all_pass o.verdicts) [] _ [] _
      (alone b t o.listed o.verdicts o.in_some_order o.checked)) warnings o.warned;
}

-- ---- nothing is nested too deep

pub passing_is_no_cut : (s : Setting) (e : Source) (v : Verdict) → PolicyChecks s e v → passes v ≡ true → IsCut s e no_caps 1 → ⊥
passing_is_no_cut s e v c p cut =
    failed v (verdict_at_most s e v (fails cut.0) c (check_cut cut.1 (IsPermutation-refl cut.0))) p
  where
    failed : (v : Verdict) → SameVerdict v (fails cut.0) → passes v ≡ true → ⊥
    failed v (same_failure p) q = true≢false (sym q)

pub passing_is_cut_nowhere : PassingIsCutNowhere
passing_is_cut_nowhere b t errors errors' old new o env k =
    let h = each_has_passing (ChecksOn b t) passes o.listed (checked_envs b.schema b.mode t)
    o.verdicts o.in_some_order o.checked (sym o.answered) env k in
    passing_is_no_cut (setting_on b t.id env) (condition_of t) h.0 h.1 h.2
