-- The promises of silence on these policies are false.
use Rattle.std.proofs.Common.{inl, [], refl, arith}
use Rattle.cedar_types.specs.declared.base.types.ValidationMode.{ValidationMode}
use Rattle.cedar_types.specs.declared.base.types.ValidationMode.TheVariants.{Strict, Permissive}
use Rattle.cedar_types.specs.Templates.{PlainTemplate}
use Rattle.cedar_typing.specs.Examples.PolicySoundness.{Passes}
use Rattle.cedar_typing.specs.Examples.Promises.{wrong_policy}
use Rattle.cedar_typing.specs.Modes.{IsSoundMode}
use Rattle.cedar_typing.specs.Soundness.Policies.{IsSoundAndClosed}
use Rattle.cedar_typechecker.specs.Slices.Examples.Promises.{AllMeanTheSame, SlicePromisesCanBreakIn, SlicePromisesCanBreak}
use Rattle.cedar_typechecker.specs.Slices.Examples.World.{wiki_basis, reading, slice_of}
use Rattle.cedar_typechecker.specs.Slices.Examples.{guided_page, checks_of}
use Rattle.cedar_typechecker.specs.Slices.NeededPremises.{SlicePremisesAreNeededIn}
use Rattle.cedar_typechecker.specs.Slices.NeededPremises.Levels.{overflowing, both_or_neither}
use Rattle.cedar_typechecker.specs.Slices.Validation.{IsCutNowhere}
use Rattle.cedar_typechecker.proofs.Slices.Examples.Needed.{slice_premises_needed}
use Rattle.cedar_typechecker.proofs.Slices.Examples.NeededLevels.{missing_or_overflow}
use Rattle.cedar_typechecker.proofs.Slices.Examples.World.{wiki_checker, reading_conforms, formed}
use Rattle.cedar_typechecker.proofs.Slices.Nesting.{shallow_is_cut_nowhere}
use Rattle.cedar_typechecker.proofs.Slices.Validation.{passing_is_cut_nowhere}

module _ (m : ValidationMode) (sound : IsSoundMode m) (needed : SlicePremisesAreNeededIn m) where
  closed : IsSoundAndClosed (wiki_basis m)
  closed = record { mode = sound; closed = (wiki_checker m).closed }

  uncut : (t : PlainTemplate) → Passes (wiki_basis m) t → IsCutNowhere (wiki_basis m) t
  uncut t p = passing_is_cut_nowhere (wiki_basis m) t [] [] [] [] p

  shallow : IsCutNowhere (wiki_basis m) wrong_policy
  shallow = shallow_is_cut_nowhere (wiki_basis m) wrong_policy (omega arith)

  can_break : (AllMeanTheSame overflowing (checks_of (wiki_basis m) overflowing) → ⊥)
      → SlicePromisesCanBreakIn m
  can_break copy =
      let less = needed.levels.less in
      let failures = needed.levels.failures in
      let parts = needed.levels.parts in
      let refused = needed.policies.refused in
      record {
        too_few = λ promise.
            less.differs.broken
            ((promise refl (uncut guided_page less.passes) closed reading less.policy.well_formed
            less.asked.conforming).same (slice_of reading 2) less.held);
        other_failure = λ promise.
            failures.differs.broken
            ((promise refl (uncut overflowing failures.passes) closed reading failures.policy.well_formed
            failures.asked.conforming).same (slice_of reading 0) failures.held);
        other_part = λ promise.
            parts.broken
            (promise refl (uncut both_or_neither parts.passes) closed reading parts.policy.well_formed
            parts.asked.conforming).same;
        wrong = λ promise.
            (promise refl shallow closed reading (formed wrong_policy refl (λ x. refl)) (reading_conforms m)).safe.0;
        with_error = λ e es silent. cc;
        cut = λ deep silent c. absurd (deep c);
        warned = λ promise. promise (λ i. i) (inl refl) closed (λ x. refl) reading (reading_conforms m) refl;
        not_warned = λ new there c a world i h. there;
        refused = λ enough.
            refused.differs.broken
            (enough 0 closed refused.policy.named refused.within reading refused.policy.well_formed
            refused.others.asked.conforming (slice_of reading 0) refused.others.held);
        copy = copy;
      }

pub slice_promises_can_break : SlicePromisesCanBreak
slice_promises_can_break = record {
  strict = can_break Strict refl slice_premises_needed.strict (λ h. missing_or_overflow h.0);
  permissive = can_break Permissive refl slice_premises_needed.permissive (λ h. missing_or_overflow h.0);
}
