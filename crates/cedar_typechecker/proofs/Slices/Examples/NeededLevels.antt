-- Policies with one level error evaluate over the slice otherwise than over the store.
use Rattle.std.proofs.Common.{◌≡◌, ℕ, inl, true, false, refl}
use Rattle.cedar_types.specs.declared.base.types.ValidationMode.{ValidationMode}
use Rattle.cedar_types.specs.declared.base.types.ValidationMode.TheVariants.{Strict, Permissive}
use Rattle.cedar_types.specs.Errors.{Fault, literal_dereference_target}
use Rattle.cedar_types.specs.Templates.{PlainTemplate}
use Rattle.cedar_types.specs.Values.{VBool}
use Rattle.cedar_typing.specs.Evaluation.World.{MissingEntity, Overflow, Outcome, Gives, Fails}
use Rattle.cedar_typing.specs.Examples.PolicySoundness.{Passes, PassesWarned}
use Rattle.cedar_typing.specs.Soundness.Policies.{Basis}
use Rattle.cedar_typing.proofs.Basics.{none_is}
use Rattle.cedar_typing.proofs.Examples.PolicySoundness.{passing}
use Rattle.cedar_typechecker.specs.Levels.Errors.{exceeds}
use Rattle.cedar_typechecker.specs.Slices.Examples.{guided_page}
use Rattle.cedar_typechecker.specs.Slices.Examples.World.{wiki_basis, reading, slice_of}
use Rattle.cedar_typechecker.specs.Slices.NeededPremises.Differing.{IsAskedPolicy, OnlyFaultIs, DiffersIn}
use Rattle.cedar_typechecker.specs.Slices.NeededPremises.Levels.{OneFaultGoesWrongIn, OneLevelLessGoesWrongIn, dan_is_active, never_active}
use Rattle.cedar_typechecker.specs.Slices.NeededPremises.Levels.{LiteralTargetsGoWrongIn, SuccessesAreWithinLevel}
use Rattle.cedar_typechecker.specs.Slices.NeededPremises.Levels.{IrrelevantEnvironmentsCountIn, overflowing, OneFailureIsNotAnotherIn}
use Rattle.cedar_typechecker.specs.Slices.NeededPremises.Levels.{both_or_neither, alice_alone, SliceAloneIsNotEachPartIn, LevelsAreNeededIn}
use Rattle.cedar_typechecker.specs.Slices.Reach.{HoldsSlice}
use Rattle.cedar_typechecker.proofs.Slices.Examples.Levels.{no_success, only}
use Rattle.cedar_typechecker.proofs.Slices.Examples.Modes.{IsEither, in_either}
use Rattle.cedar_typechecker.proofs.Slices.Examples.World.{reading_asked, policy_asked, AreStoredIn, listed, held}
use Rattle.cedar_typechecker.proofs.Slices.Examples.World.{fails_or_gives, false_or_true, differs}

pub missing_or_overflow : Fails MissingEntity ≡ Fails Overflow → ⊥
missing_or_overflow h = cc

module _ (m : ValidationMode) (either : IsEither m) where
  -- a policy whose check passes in each of the two modes, and which has one fault
  one_fault : (Passed : Basis → PlainTemplate → Type 0) (t : PlainTemplate) (n : ℕ) (f : Fault)
      (o o' : Outcome)
      → IsAskedPolicy (wiki_basis m) t reading → AreStoredIn reading.store (slice_of reading n)
      → DiffersIn t reading (slice_of reading n) o o'
      → Passed (wiki_basis Strict) t × OnlyFaultIs (wiki_basis Strict) t n f
      → Passed (wiki_basis Permissive) t × OnlyFaultIs (wiki_basis Permissive) t n f
      → OneFaultGoesWrongIn m Passed t n f o o'
  one_fault Passed t n f o o' policy stored d strict permissive =
      let IsFound : ValidationMode → Type 0 = λ k.
      Passed (wiki_basis k) t × OnlyFaultIs (wiki_basis k) t n f in
      let found = in_either m IsFound strict permissive either in
      record {
        asked = reading_asked m;
        policy = policy;
        passes = found.0;
        wrong = found.1;
        held = held reading n stored;
        differs = d;
      }

  less : OneLevelLessGoesWrongIn m
  less =
      one_fault Passes guided_page 2 (exceeds 2 3) _ _
      (policy_asked _ _ _ refl refl refl refl (λ x. refl))
      (refl, (refl, (refl, (refl, (refl, tt)))))
      (differs guided_page reading (slice_of reading 2) _ _ refl refl (fails_or_gives _ _))
      (passing _ _ _ refl refl refl, only _ _ _ _ _ (inl refl) refl (refl, (refl, tt)))
      (passing _ _ _ refl refl refl, only _ _ _ _ _ (inl refl) refl (refl, (refl, tt)))

  literal : LiteralTargetsGoWrongIn m
  literal =
      one_fault Passes dan_is_active 1 literal_dereference_target _ _
      (policy_asked _ _ _ refl refl refl refl (λ x. refl)) (refl, (refl, (refl, (refl, tt))))
      (differs dan_is_active reading (slice_of reading 1) _ _ refl refl (fails_or_gives _ _))
      (passing _ _ _ refl refl refl, only _ _ _ _ _ (inl refl) refl (refl, tt))
      (passing _ _ _ refl refl refl, only _ _ _ _ _ (inl refl) refl (refl, tt))

  irrelevants : IrrelevantEnvironmentsCountIn m
  irrelevants = record {
    goes_wrong =
        one_fault PassesWarned never_active 0 (exceeds 0 1) _ _
        (policy_asked _ _ _ refl refl refl refl (λ x. refl)) tt
        (differs never_active reading (slice_of reading 0) _ _ refl refl (fails_or_gives _ _))
        (passing _ _ _ refl refl refl, only _ _ _ _ _ (inl refl) refl (refl, tt))
        (passing _ _ _ refl refl refl, only _ _ _ _ _ (inl refl) refl (refl, tt));
    others_within =
        in_either m (λ k. SuccessesAreWithinLevel (wiki_basis k) never_active 0)
        (no_success (wiki_basis Strict) never_active 0 (λ h. h, tt))
        (no_success (wiki_basis Permissive) never_active 0 (λ h. h, tt)) either;
  }

  failures : OneFailureIsNotAnotherIn m
  failures =
      one_fault Passes overflowing 0 (exceeds 0 1) _ _
      (policy_asked _ _ _ refl refl refl refl (λ x. refl)) tt
      (differs overflowing reading (slice_of reading 0) _ _ refl refl missing_or_overflow)
      (passing _ _ _ refl refl refl, only _ _ _ _ _ (inl refl) refl (refl, tt))
      (passing _ _ _ refl refl refl, only _ _ _ _ _ (inl refl) refl (refl, tt))

  -- each part has the slice of zero steps
  alice_held : HoldsSlice reading.request reading.store 0 alice_alone
  alice_held =
      record { of_store = listed alice_alone reading.store (refl, tt); of_slice = λ u e h. absurd (none_is h) }

  in_between : DiffersIn both_or_neither reading alice_alone (Gives (VBool false)) (Gives (VBool true))
  in_between = differs both_or_neither reading alice_alone _ _ refl refl false_or_true

  parts : SliceAloneIsNotEachPartIn m
  parts = record {
    asked = reading_asked m;
    policy = policy_asked _ _ _ refl refl refl refl (λ x. refl);
    passes =
        in_either m (λ k. Passes (wiki_basis k) both_or_neither) (passing _ _ _ refl refl refl)
        (passing _ _ _ refl refl refl) either;
    wrong =
        in_either m (λ k. OnlyFaultIs (wiki_basis k) both_or_neither 0 (exceeds 0 1))
        (only _ _ _ _ _ (inl refl) refl (refl, (refl, tt)))
        (only _ _ _ _ _ (inl refl) refl (refl, (refl, tt))) either;
    in_slice = refl;
    same_in_slice = refl;
    held = alice_held;
    differs = in_between;
    broken = λ h. in_between.broken (h alice_alone alice_held);
  }

  pub levels_needed : LevelsAreNeededIn m
  levels_needed =
      record { less = less; literal = literal; irrelevant = irrelevants; failures = failures; parts = parts }
