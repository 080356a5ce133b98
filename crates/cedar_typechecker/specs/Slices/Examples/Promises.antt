-- Promises of silence that are false, because the policy needs more than the slice, differs over
-- some part of the store, or goes wrong.
use Rattle.std.specs.Prelude.{List, [], ◌∷◌}
use Rattle.cedar_types.specs.declared.base.types.ValidationMode.{ValidationMode}
use Rattle.cedar_types.specs.declared.base.types.ValidationMode.TheVariants.{Strict, Permissive}
use Rattle.cedar_types.specs.Errors.{Finding}
use Rattle.cedar_types.specs.Templates.{PlainTemplate, condition_of}
use Rattle.cedar_typing.specs.Examples.Promises.{wrong_policy, true_policy}
use Rattle.cedar_typing.specs.PolicyCheck.Outcome.{impossible}
use Rattle.cedar_typing.specs.PolicyCheck.{Verdict}
use Rattle.cedar_typechecker.specs.Slices.Examples.{guided_page, checks_of}
use Rattle.cedar_typechecker.specs.Slices.Examples.World.{wiki_basis, reading, slice_of}
use Rattle.cedar_typechecker.specs.Slices.NeededPremises.Levels.{overflowing, both_or_neither}
use Rattle.cedar_typechecker.specs.Slices.NeededPremises.Policies.{unguarded}
use Rattle.cedar_typechecker.specs.Slices.Policies.{SliceSuffices}
use Rattle.cedar_typechecker.specs.Slices.TypedCopies.{VerdictMeansTheSameInPart}
use Rattle.cedar_typechecker.specs.Slices.Validation.{IsCutNowhere, SilenceIsKept, WarnedIsNeverTrue}

-- the typed condition of each verdict evaluates over the slice of zero steps as the condition does
-- over the store
abbrev pub AllMeanTheSame : PlainTemplate → List Verdict → Type 0
AllMeanTheSame t [] = Unit {0}
AllMeanTheSame t (v ∷ vs) =
    VerdictMeansTheSameInPart reading (slice_of reading 0) (condition_of t) v × AllMeanTheSame t vs

pub record SlicePromisesCanBreakIn (m : ValidationMode) : Type 0 where
  -- the promise at two steps is false for a policy that needs three
  pub too_few : SilenceIsKept (wiki_basis m) guided_page 2 [] → ⊥
  -- the promise is false for a policy that fails over the store and over the slice, but not alike
  pub other_failure : SilenceIsKept (wiki_basis m) overflowing 0 [] → ⊥
  -- the promise is false for a policy that evaluates over the slice as over the store, but not over
  -- a part that has more than the slice
  pub other_part : SilenceIsKept (wiki_basis m) both_or_neither 0 [] → ⊥
  -- the promise is false for a policy that goes wrong over the store, as over each part of it
  pub wrong : SilenceIsKept (wiki_basis m) wrong_policy 0 [] → ⊥
  -- nothing is promised if there is an error, or if a part is nested too deep
  pub with_error : (e : Finding) (es : List Finding)
      → SilenceIsKept (wiki_basis m) guided_page 2 (e ∷ es)
  pub cut : (IsCutNowhere (wiki_basis m) guided_page → ⊥)
      → SilenceIsKept (wiki_basis m) guided_page 2 []
  -- the promise of the warning is false for a policy that is true; without the warning nothing is
  -- promised
  pub warned : WarnedIsNeverTrue (wiki_basis m) true_policy (impossible true_policy ∷ []) → ⊥
  pub not_warned : WarnedIsNeverTrue (wiki_basis m) true_policy []
  -- the promise of the level rules is false for a policy whose check fails
  pub refused : SliceSuffices (wiki_basis m) unguarded → ⊥
  -- the promise on typed conditions is false for one that fails as the condition does, but not
  -- alike
  pub copy : AllMeanTheSame overflowing (checks_of (wiki_basis m) overflowing) → ⊥

pub record SlicePromisesCanBreak : Type 0 where
  pub strict : SlicePromisesCanBreakIn Strict
  pub permissive : SlicePromisesCanBreakIn Permissive
