-- The survey of all environments of a policy.
use Rattle.std.proofs.Common.{◌≡◌, ◌↔◌, ℕ, ◌≤◌, [], sym, subst}
use Rattle.std.proofs.lemmas.List.Sorted.{IsPermutation-refl}
use Rattle.cedar_types.specs.Environments.Linking.{checked_envs}
use Rattle.cedar_types.specs.Environments.RequestEnvs.{Env}
use Rattle.cedar_types.specs.Errors.{Finding}
use Rattle.cedar_types.specs.Names.{Text, text_of}
use Rattle.cedar_types.specs.Schemas.{Schema}
use Rattle.cedar_types.specs.Templates.{PlainTemplate, condition_of}
use Rattle.cedar_typing.specs.Evaluation.Conformance.{IsOneOf}
use Rattle.cedar_typing.specs.PolicyCheck.{Verdict}
use Rattle.cedar_typing.specs.Soundness.Policies.{Basis, setting_on}
use Rattle.cedar_typechecker.specs.declared.survey.Survey.{Survey}
use Rattle.cedar_typechecker.specs.Levels.Demands.{told}
use Rattle.cedar_typechecker.specs.Levels.Laws.{VerdictIsShared}
use Rattle.cedar_typechecker.specs.Levels.Outcome.{ChecksOn, levels_on, IsErrorInSome}
use Rattle.cedar_typechecker.specs.Levels.Views.{demands_of}
use Rattle.cedar_typechecker.specs.Surveyed.{IsSurveyed}
use Rattle.cedar_typechecker.specs.Surveys.{passes_of, impossible_of, fails_silently_of, applicable_of, errors_of, environments_of, level_errors_of, required_of, Surveys, IsSurveyOf}
use Rattle.cedar_typechecker.proofs.Levels.RequiredLevels.{least_is_required}
use Rattle.cedar_typechecker.proofs.Levels.Typing.{typed_branches_are_shared}
use Rattle.cedar_typechecker.proofs.Surveys.{told_are_level_errors}

module _ (b : Basis) (t : PlainTemplate) where
  pub of_none : (s : Survey) → ((schema : Schema) → Surveys schema s [] []) → IsSurveyed b t s []
  of_none s h = record { listed = []; verdicts = []; in_some_order = IsPermutation-refl []; checked = tt; surveys = h b.schema }

  pub of_all : (s : Survey) → text_of s.policy_id.text ≡ t.id → IsSurveyed b t s (checked_envs b.schema b.mode t) → IsSurveyOf b t s
  unfolding passes_of impossible_of fails_silently_of applicable_of errors_of environments_of level_errors_of required_of
  of_all s id h =
      let ds = demands_of s.demands.keys in
      let shared : (v : Verdict) (env : Env) → ChecksOn b t env v → VerdictIsShared v =
      λ v env k. typed_branches_are_shared (setting_on b t.id env) (condition_of t) v k in
      let Same : Text → Type 0 = λ p. (n : ℕ) → n ≤ 4294967295 → (e : Finding)
      → IsOneOf e (told p n ds) ↔ IsErrorInSome (levels_on b t n) h.listed h.verdicts e in
      record {
        listed = h.listed;
        verdicts = h.verdicts;
        in_some_order = h.in_some_order;
        checked = h.checked;
        passes = h.surveys.passes;
        impossible = h.surveys.impossible;
        silent = h.surveys.silent;
        applicable = h.surveys.applicable;
        errors = h.surveys.errors;
        environments = h.surveys.environments;
        levels = subst Same (sym id)
            (λ n le. told_are_level_errors b t n le h.listed h.verdicts ds h.checked shared h.surveys.demands);
        required = least_is_required b t h.listed h.verdicts ds h.in_some_order h.checked shared h.surveys.demands;
      }
