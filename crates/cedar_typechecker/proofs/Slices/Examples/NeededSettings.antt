-- Evaluation over the slice differs in Partial, and if a slot is not linked.
use Rattle.std.proofs.Common.{inl, refl}
use Rattle.cedar_types.specs.declared.base.types.ValidationMode.{ValidationMode}
use Rattle.cedar_types.specs.declared.base.types.ValidationMode.TheVariants.{Strict, Permissive, Partial}
use Rattle.cedar_typing.specs.Examples.PolicySoundness.{Passes}
use Rattle.cedar_typing.specs.PolicyCheck.{Verdict, succeeds, irrelevant, fails, PolicyChecks, policy_check}
use Rattle.cedar_typing.specs.TypedExpr.{TypedTree}
use Rattle.cedar_typing.specs.Eager.{no_tree}
use Rattle.cedar_typing.proofs.Examples.PolicySoundness.{passing}
use Rattle.cedar_typing.proofs.Policies.Check.{checked}
use Rattle.cedar_typechecker.specs.Levels.Errors.{IsWithinLevel}
use Rattle.cedar_typechecker.specs.Slices.Examples.World.{page, read_context, wiki_basis, reading}
use Rattle.cedar_typechecker.specs.Slices.NeededPremises.Settings.{is_no_user, unlinked, slot_has_profile, alice_bound, PartialGoesWrong}
use Rattle.cedar_typechecker.specs.Slices.NeededPremises.Settings.{UnlinkedSlotsGoWrongIn}
use Rattle.cedar_typechecker.specs.Slices.Soundness.{levels_in}
use Rattle.cedar_typechecker.proofs.Levels.Walk.{silent_walk_is_within}
use Rattle.cedar_typechecker.proofs.Slices.Examples.Levels.{within}
use Rattle.cedar_typechecker.proofs.Slices.Examples.Modes.{IsEither, in_either, sound}
use Rattle.cedar_typechecker.proofs.Slices.Examples.World.{wiki_conforms, sample_kept, reads, reading_asked, policy_asked, false_or_true}
use Rattle.cedar_typechecker.proofs.Slices.Examples.World.{differs_in_slice, held}

pub partial_wrong : PartialGoesWrong
partial_wrong = record {
  asked = reading_asked Partial;
  goes_wrong =
      differs_in_slice Passes (wiki_basis Partial) is_no_user 0 reading _ _
      (policy_asked _ _ _ refl refl refl refl (λ x. refl)) tt refl refl false_or_true
      (passing _ _ _ refl refl refl, within (wiki_basis Partial) is_no_user 0 refl);
}

-- the condition that a check typed
abbrev typed_by : Verdict → TypedTree
typed_by (succeeds x) = x
typed_by (irrelevant es x) = x
typed_by (fails es) = no_tree

abbrev typed_slot : ValidationMode → TypedTree
typed_slot m = typed_by (policy_check (unlinked m) slot_has_profile)

-- the check succeeds, and the condition that it types is within the level
abbrev SlotIsWithin : ValidationMode → Type 0
SlotIsWithin m =
    (x : TypedTree) × PolicyChecks (unlinked m) slot_has_profile (succeeds x)
    × IsWithinLevel (levels_in (unlinked m) 0) x

module _ (m : ValidationMode) (either : IsEither m) where
  pub links_needed : UnlinkedSlotsGoWrongIn m
  links_needed = record {
    schema = refl;
    functions = refl;
    setting = record { mode = sound m either; closed = refl; environment = inl refl };
    reliable = record {
      environment = (reads, tt, tt);
      store = wiki_conforms page read_context;
      functions = sample_kept m;
    };
    bound = (tt, tt);
    within =
        in_either m SlotIsWithin (
          typed_slot Strict,
          checked (unlinked Strict) slot_has_profile,
          (silent_walk_is_within (levels_in (unlinked Strict) 0) (typed_slot Strict)).0 refl,
        ) (
          typed_slot Permissive,
          checked (unlinked Permissive) slot_has_profile,
          (silent_walk_is_within (levels_in (unlinked Permissive) 0) (typed_slot Permissive)).0 refl,
        )
        either;
    held = held alice_bound 0 tt;
    in_part = refl;
    in_store = refl;
  }
