-- Evaluation over the slice differs if the request or the store does not conform.
use Rattle.std.proofs.Common.{inl, refl}
use Rattle.cedar_types.specs.declared.base.types.ValidationMode.{ValidationMode}
use Rattle.cedar_typing.specs.Examples.PolicySoundness.{PassesWarned}
use Rattle.cedar_typing.proofs.Examples.PolicySoundness.{passing}
use Rattle.cedar_typechecker.specs.Slices.Examples.World.{page, read_context, wiki_basis}
use Rattle.cedar_typechecker.specs.Slices.NeededPremises.Worlds.{teams_read, staff_reads, teams_guide, staff_guides, RequestsMustConformIn}
use Rattle.cedar_typechecker.specs.Slices.NeededPremises.Worlds.{StoresMustConformIn, WorldsAreNeededIn}
use Rattle.cedar_typechecker.proofs.Slices.Examples.Modes.{IsEither, fine}
use Rattle.cedar_typechecker.proofs.Slices.Examples.World.{wiki_conforms, sample_kept, reads, wiki_checker, policy_asked, fails_or_gives}
use Rattle.cedar_typechecker.proofs.Slices.Examples.World.{differs_in_slice}

module _ (m : ValidationMode) (either : IsEither m) where
  requests : RequestsMustConformIn m
  requests = record {
    store = wiki_conforms page read_context;
    others = record {
      checker = wiki_checker m;
      functions = sample_kept m;
      goes_wrong =
          differs_in_slice PassesWarned (wiki_basis m) teams_read 0 staff_reads _ _
          (policy_asked _ _ _ refl refl refl refl (λ x. refl)) tt refl refl (fails_or_gives _ _)
          (fine m either PassesWarned wiki_basis teams_read 0 (passing _ _ _ refl refl refl)
          (passing _ _ _ refl refl refl) refl refl);
    };
  }

  stores : StoresMustConformIn m
  stores = record {
    request = (_, inl refl, reads);
    others = record {
      checker = wiki_checker m;
      functions = sample_kept m;
      goes_wrong =
          differs_in_slice PassesWarned (wiki_basis m) teams_guide 1 staff_guides _ _
          (policy_asked _ _ _ refl refl refl refl (λ x. refl)) (refl, (refl, (refl, (refl, tt))))
          refl refl (fails_or_gives _ _)
          (fine m either PassesWarned wiki_basis teams_guide 1 (passing _ _ _ refl refl refl)
          (passing _ _ _ refl refl refl) refl refl);
    };
  }

  pub worlds_needed : WorldsAreNeededIn m
  worlds_needed = record { request = requests; store = stores }
