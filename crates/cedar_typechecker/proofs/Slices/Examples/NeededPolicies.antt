-- Policies that fail their check, that name unknown types or actions, that have unknowns, or that
-- have slots in the rest, evaluate over the slice otherwise than over the store.
use Rattle.std.proofs.Common.{◌≡◌, false, List, [], ◌∷◌, map, refl}
use Rattle.std.proofs.lemmas.List.Sorted.{IsPermutation-refl}
use Rattle.cedar_types.specs.declared.base.types.ValidationMode.{ValidationMode}
use Rattle.cedar_types.specs.declared.base.types.ValidationMode.TheVariants.{Strict, Permissive}
use Rattle.cedar_types.specs.Environments.Linking.{checked_envs}
use Rattle.cedar_types.specs.Errors.{Finding}
use Rattle.cedar_types.specs.Templates.{PlainTemplate, condition_of}
use Rattle.cedar_types.specs.Values.{VBool}
use Rattle.cedar_typing.specs.Evaluation.World.{TypeFailure, Outcome, Gives, Fails}
use Rattle.cedar_typing.specs.Examples.PolicySoundness.{PassesWarned}
use Rattle.cedar_typing.specs.PolicyCheck.{Verdict}
use Rattle.cedar_typing.specs.PolicyCheck.Outcome.{VerdictsOf, all_pass, all_errors, warnings_of}
use Rattle.cedar_typing.specs.Soundness.Policies.{IsNamedBySchema, IsWellFormed, CheckedOn}
use Rattle.cedar_typing.proofs.Composition.Slots.{slots_bound}
use Rattle.cedar_typing.proofs.Examples.PolicySoundness.{passing}
use Rattle.cedar_typing.proofs.Policies.Check.{checked}
use Rattle.cedar_typechecker.specs.Levels.Outcome.{ChecksOn}
use Rattle.cedar_typechecker.specs.Slices.Examples.World.{wiki_schema, wiki_basis, staff_slots, reading, slice_of}
use Rattle.cedar_typechecker.specs.Slices.NeededPremises.Differing.{DiffersIn}
use Rattle.cedar_typechecker.specs.Slices.NeededPremises.Policies.{IsReadingIn, unguarded, unguarded_access, of_unknown_type}
use Rattle.cedar_typechecker.specs.Slices.NeededPremises.Policies.{of_unknown_action, of_unknown, slot_in_rest, RefusedPoliciesGoWrongIn}
use Rattle.cedar_typechecker.specs.Slices.NeededPremises.Policies.{NameGoesWrongIn, NamesMustBeKnownIn, KnownGoesWrongIn, UnknownsGoWrongIn}
use Rattle.cedar_typechecker.specs.Slices.NeededPremises.Policies.{SlotsInTheRestGoWrongIn, PoliciesAreNeededIn}
use Rattle.cedar_typechecker.specs.Slices.Policies.{PolicyIsWithinLevel}
use Rattle.cedar_typechecker.proofs.Validations.{checked_alone}
use Rattle.cedar_typechecker.proofs.Slices.Examples.Levels.{verdict_in, within}
use Rattle.cedar_typechecker.proofs.Slices.Examples.Modes.{IsEither, IsFine, in_either, fine}
use Rattle.cedar_typechecker.proofs.Slices.Examples.World.{reading_asked, staff_bound, formed, policy_asked, fails_or_gives, gives_or_fails}
use Rattle.cedar_typechecker.proofs.Slices.Examples.World.{differs, held}

-- ---- the outcomes of the checks

abbrev IsRefused : ValidationMode → Type 0
IsRefused m = CheckedOn (wiki_basis m) unguarded false [] (unguarded_access ∷ []) [] []

abbrev refusals : ValidationMode → List Verdict
refusals m =
    map (verdict_in (wiki_basis m) unguarded) (checked_envs wiki_schema m unguarded)

refused_by : (m : ValidationMode)
    → VerdictsOf (ChecksOn (wiki_basis m) unguarded) (checked_envs wiki_schema m unguarded)
    (refusals m)
    → all_pass (refusals m) ≡ false
    → CheckedOn (wiki_basis m) unguarded false [] (all_errors (refusals m)) []
    (warnings_of unguarded (refusals m))
refused_by m each e =
    checked_alone (wiki_basis m) unguarded (checked_envs wiki_schema m unguarded) (refusals m)
    (IsPermutation-refl _) each false e

-- ---- in either mode

module _ (m : ValidationMode) (either : IsEither m) where
  others : IsReadingIn m
  others =
      record { asked = reading_asked m; held = held reading 0 tt }

  -- the policy is checked in one environment
  refused : RefusedPoliciesGoWrongIn m
  refused = record {
    others = others;
    policy = policy_asked _ _ _ refl refl refl refl (λ x. refl);
    fails =
        in_either m IsRefused
        (refused_by Strict (checked _ _, tt) refl) (refused_by Permissive (checked _ _, tt) refl)
        either;
    within =
        in_either m (λ k. PolicyIsWithinLevel (wiki_basis k) unguarded 0)
        (within (wiki_basis Strict) unguarded 0 refl)
        (within (wiki_basis Permissive) unguarded 0 refl) either;
    differs = differs unguarded reading (slice_of reading 0) _ _ refl refl (fails_or_gives _ _);
  }

  name : (t : PlainTemplate) (known : List Finding) → known ≡ [] → IsWellFormed t reading.slots
      → DiffersIn t reading (slice_of reading 0) (Gives (VBool false)) (Fails TypeFailure)
      → IsFine PassesWarned (wiki_basis m) t 0 → NameGoesWrongIn m t known
  name t known none formed d found =
      record { passes = found.0; formed = formed; others_known = none; within = found.1; differs = d }

  names : NamesMustBeKnownIn m
  names = record {
    others = others;
    types =
        name of_unknown_type _ refl (formed of_unknown_type refl (λ x. refl))
        (differs _ _ _ _ _ refl refl (gives_or_fails _ _))
        (fine m either PassesWarned wiki_basis of_unknown_type 0 (passing _ _ _ refl refl refl)
        (passing _ _ _ refl refl refl) refl refl);
    actions =
        name of_unknown_action _ refl (formed of_unknown_action refl (λ x. refl))
        (differs _ _ _ _ _ refl refl (gives_or_fails _ _))
        (fine m either PassesWarned wiki_basis of_unknown_action 0 (passing _ _ _ refl refl refl)
        (passing _ _ _ refl refl refl) refl refl);
  }

  known : (t : PlainTemplate) (o o' : Outcome) → IsNamedBySchema wiki_schema t
      → DiffersIn t reading (slice_of reading 0) o o'
      → IsFine PassesWarned (wiki_basis m) t 0 → KnownGoesWrongIn m t o o'
  known t o o' named d found = record {
    others = others;
    passes = found.0;
    named = named;
    bound = slots_bound staff_slots staff_bound (condition_of t);
    within = found.1;
    differs = d;
  }

  unknowns : UnknownsGoWrongIn m
  unknowns = record {
    slots_in_scope = λ x. refl;
    goes_wrong =
        known of_unknown _ _ (record { types = refl; actions = refl })
        (differs _ _ _ _ _ refl refl (gives_or_fails _ _))
        (fine m either PassesWarned wiki_basis of_unknown 0 (passing _ _ _ refl refl refl)
        (passing _ _ _ refl refl refl) refl refl);
  }

  slots : SlotsInTheRestGoWrongIn m
  slots = record {
    no_unknowns = refl;
    goes_wrong =
        known slot_in_rest _ _ (record { types = refl; actions = refl })
        (differs _ _ _ _ _ refl refl (fails_or_gives _ _))
        (fine m either PassesWarned wiki_basis slot_in_rest 0 (passing _ _ _ refl refl refl)
        (passing _ _ _ refl refl refl) refl refl);
  }

  pub policies_needed : PoliciesAreNeededIn m
  policies_needed =
      record { refused = refused; names = names; unknowns = unknowns; slots = slots }
