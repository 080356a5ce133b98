-- The promises of a survey: evaluation over a whole store, and over slices.
use Rattle.std.specs.Prelude.{◌≡◌, ℕ, ◌≤◌, true, []}
use Rattle.cedar_types.specs.Templates.{PlainTemplate, condition_of}
use Rattle.cedar_typing.specs.Composition.{SlotsInScopeAlone}
use Rattle.cedar_typing.specs.Evaluation.Eval.{eval}
use Rattle.cedar_typing.specs.Evaluation.World.{World}
use Rattle.cedar_typing.specs.Soundness.Policies.{Basis, IsSoundAndClosed, IsNamedBySchema, IsWellFormed, IsConforming, PolicyIsSafe}
use Rattle.cedar_typing.specs.Soundness.{IsTrueOutcome}
use Rattle.cedar_typechecker.specs.declared.survey.Survey.{Survey}
use Rattle.cedar_typechecker.specs.Slices.Policies.{IsSameInSlices}
use Rattle.cedar_typechecker.specs.Surveys.{passes_of, impossible_of, level_errors_of}

-- the premises are those of the check of a policy
pub record SurveyIsKept (b : Basis) (t : PlainTemplate) (s : Survey) : Type 0 where
  -- a policy that passes evaluates to a boolean, or fails only for a missing entity, an overflow or
  -- an extension call
  pub safe : PolicyIsSafe b t (passes_of s)
  -- a policy that is impossible is never true, whether or not it passes and its slots are bound
  pub never_true : impossible_of s ≡ true → IsSoundAndClosed b → SlotsInScopeAlone t
      → (world : World) → IsConforming b world → IsTrueOutcome (eval world (condition_of t)) → ⊥
  -- a policy that passes and has no level error at n evaluates over each part of the store that has
  -- the slice of n steps as over the whole store
  pub sliced : (n : ℕ) → n ≤ 4294967295 → passes_of s ≡ true → level_errors_of s n ≡ []
      → IsSoundAndClosed b → IsNamedBySchema b.schema t
      → (world : World) → IsWellFormed t world.slots → IsConforming b world
      → IsSameInSlices t world n
