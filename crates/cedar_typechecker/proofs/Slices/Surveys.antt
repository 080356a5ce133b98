-- The promises of a survey follow from its results.
use Rattle.std.proofs.Common.{◌≡◌, ℕ, ◌≤◌, Bool, true, false, List, [], ◌∷◌, cond, None, inl, refl, sym, subst, ◌∙◌}
use Rattle.cedar_types.specs.Errors.{Finding}
use Rattle.cedar_types.specs.Extensions.Functions.{table_fault}
use Rattle.cedar_types.specs.Schemas.{has_fault}
use Rattle.cedar_types.specs.Templates.{PlainTemplate}
use Rattle.cedar_typing.specs.Evaluation.Conformance.{IsOneOf}
use Rattle.cedar_typing.specs.Modes.{IsFormedFor}
use Rattle.cedar_typing.specs.PolicyCheck.Outcome.{all_errors, warnings_of, impossible}
use Rattle.cedar_typing.specs.Soundness.Policies.{Basis, CheckedOn, AreBothKept}
use Rattle.cedar_typing.proofs.Soundness.Policies.{promises_are_kept}
use Rattle.cedar_typechecker.specs.declared.survey.Survey.{Survey}
use Rattle.cedar_typechecker.specs.Slices.Policies.{PolicyIsWithinLevel, SliceSuffices}
use Rattle.cedar_typechecker.specs.Slices.Surveys.{SurveyIsKept}
use Rattle.cedar_typechecker.specs.Surveys.{passes_of, impossible_of, level_errors_of, IsSurveyOf}
use Rattle.cedar_typechecker.proofs.Levels.RequiredLevels.{within_if_none_listed}
use Rattle.cedar_typechecker.proofs.Slices.Policies.{passing_needs_slice_alone}

module _ (b : Basis) (t : PlainTemplate) (s : Survey) (h : IsSurveyOf b t s) where
  -- the results of a survey are those of a check of the policy
  pub checked : CheckedOn b t (passes_of s) [] (all_errors h.verdicts) [] (warnings_of t h.verdicts)
  checked = record {
    listed = h.listed;
    verdicts = h.verdicts;
    in_some_order = h.in_some_order;
    checked = h.checked;
    answered = h.passes;
    errors_added = λ e. (λ i. i, λ i. i);
    warnings_added = λ e. (λ i. i, λ i. i);
  }

  -- the results of a policy that passes
  passed : passes_of s ≡ true
      → CheckedOn b t true [] (all_errors h.verdicts) [] (warnings_of t h.verdicts)
  passed e =
      let P : Bool → Type 0 = λ z. CheckedOn b t z [] (all_errors h.verdicts) []
      (warnings_of t h.verdicts) in
      subst P e checked

  warned : impossible_of s ≡ true → IsOneOf (impossible t) (warnings_of t h.verdicts)
  warned e =
      let P : Bool → Type 0 = λ z. IsOneOf (impossible t) (cond z (impossible t ∷ []) []) in
      subst P (sym (sym h.impossible ∙ e)) (inl refl)

  within : (n : ℕ) → n ≤ 4294967295 → level_errors_of s n ≡ [] → PolicyIsWithinLevel b t n
  within n le e =
      within_if_none_listed b t n h.listed h.verdicts h.in_some_order h.checked
      (λ f i. let P : List Finding → Type 0 = λ es. IsOneOf f es in subst P e ((h.levels n le f).1 i))

  kept_by : AreBothKept b t (passes_of s) [] (warnings_of t h.verdicts)
      → (passes_of s ≡ true → SliceSuffices b t) → SurveyIsKept b t s
  kept_by both suffices = record {
    safe = both.safe;
    never_true = λ e closed slots world conforming.
        both.never_true (λ i. i) (warned e) closed slots world conforming;
    sliced = λ n le e none closed named world formed conforming.
        suffices e n closed named (within n le none) world formed conforming;
  }

pub survey_is_kept : (b : Basis) (t : PlainTemplate) (s : Survey) → IsSurveyOf b t s
    → has_fault b.schema ≡ false → IsFormedFor b.mode b.schema → table_fault b.table.functions ≡ None
    → SurveyIsKept b t s
survey_is_kept b t s h faultless formed table =
    kept_by b t s h
    (promises_are_kept b t faultless formed table (passes_of s) [] _ [] _ (checked b t s h))
    (λ e. passing_needs_slice_alone b t faultless formed table [] _ [] _ (passed b t s h e))
