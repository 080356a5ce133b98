-- Promises to a host, from those of the libraries in a sound mode.
use Rattle.std.proofs.Common.{◌≡◌, ℕ, ◌≤◌, Bool, true, false, true≢false, List, [], ◌∷◌, length, refl, sym, ◌∙◌, IsTrue, arith}
use Rattle.std.specs.Prelude.{◌↔◌}
use Rattle.cedar_types.specs.Errors.{Finding, Warning}
use Rattle.cedar_types.specs.Environments.Linking.{checked_envs}
use Rattle.cedar_types.specs.Environments.RequestEnvs.{Env}
use Rattle.cedar_types.specs.Templates.{PlainTemplate, condition_of}
use Rattle.cedar_typing.specs.Modes.{IsSoundMode}
use Rattle.cedar_typing.specs.PolicyCheck.{succeeds, PolicyChecks}
use Rattle.cedar_typing.specs.PolicyCheck.Outcome.{passes}
use Rattle.cedar_typing.specs.Soundness.Policies.{Basis, IsNamedBySchema, CheckedOn, setting_on}
use Rattle.cedar_typing.specs.Soundness.PolicyCheck.{IsSoundPolicyCheck}
use Rattle.cedar_typing.specs.TypedExpr.{TypedTree}
use Rattle.cedar_typing.proofs.Policies.EachEnvironment.{each_has_passing}
use Rattle.cedar_typechecker.specs.declared.survey.Survey.{Survey}
use Rattle.cedar_typechecker.specs.Slices.Surveys.{SurveyIsKept}
use Rattle.cedar_typechecker.specs.Surveys.{passes_of, impossible_of, level_errors_of}
use Rattle.cedar_host.specs.declared.safety.SoundMode.{SoundMode}
use Rattle.cedar_host.specs.Safety.{validation_mode, IsSafeToEvaluate, PassesEverywhere, DoesNotGoWrong, IsNeverTrue}
use Rattle.cedar_host.specs.Slices.{NeedsSliceAlone}

-- a policy that passes, passes in each environment
pub passes_everywhere :
    (b : Basis) (t : PlainTemplate) (answer : Bool)
    (errors errors' : List Finding) (old new : List Warning)
    → CheckedOn b t answer errors errors' old new → answer ≡ true → PassesEverywhere b t
passes_everywhere b t answer errors errors' old new o h =
    each_has_passing (λ env. PolicyChecks (setting_on b t.id env) (condition_of t)) passes
    o.listed (checked_envs b.schema b.mode t) o.verdicts o.in_some_order o.checked
    (sym o.answered ∙ h)

-- a set that has no member by a test has none
pub no_member : {A : Type 0} (xs : List A) (b : Bool) → (IsTrue b ↔ (length xs ≡ 0)) → b ≡ true
    → xs ≡ []
no_member [] b d e = refl
no_member (x ∷ xs) true d e = absurd (not_none (d.0 refl))
  where
    not_none : length (x ∷ xs) ≡ 0 → ⊥
    not_none h = omega arith
no_member (x ∷ xs) false d e = absurd (true≢false (sym e))

-- the host's mode is sound
pub asked_is_sound : (mode : SoundMode) → IsSoundMode (validation_mode mode)
asked_is_sound SoundMode.Strict = refl
asked_is_sound SoundMode.Permissive = refl

module _ (b : Basis) (t : PlainTemplate) (mode : IsSoundMode b.mode) where
  -- a success is safe to evaluate
  pub success_is_safe : (env : Env) (e : TypedTree)
      → IsSoundPolicyCheck (setting_on b t.id env) (condition_of t) (succeeds e)
      → IsSafeToEvaluate b t env
  success_is_safe env e sound closed of_schema =
      sound (record { mode = mode; closed = closed; environment = of_schema })

  -- ---- by a survey

  module _ (s : Survey) (kept : SurveyIsKept b t s) where
    pub passing_is_safe : passes_of s ≡ true → IsNamedBySchema b.schema t → DoesNotGoWrong b t
    passing_is_safe e named closed = kept.safe e (record { mode = mode; closed = closed }) named

    pub impossible_is_never_true : impossible_of s ≡ true → IsNeverTrue b t
    impossible_is_never_true e closed = kept.never_true e (record { mode = mode; closed = closed })

    -- a policy that passes without a level error needs only the slice
    pub passing_needs_slice_alone : (n : ℕ) → n ≤ 4294967295 → passes_of s ≡ true
        → level_errors_of s n ≡ [] → IsNamedBySchema b.schema t → NeedsSliceAlone b t n
    passing_needs_slice_alone n le e none named closed world formed conforming = record {
      safe = passing_is_safe e named closed world formed conforming;
      same = kept.sliced n le e none (record { mode = mode; closed = closed }) named world formed
          conforming;
    }
