-- Evaluation over a part differs if one entry is not as it is in the store.
use Rattle.std.proofs.Common.{inl, ◌∷◌, refl}
use Rattle.cedar_types.specs.declared.base.types.ValidationMode.{ValidationMode}
use Rattle.cedar_typing.specs.Examples.PolicySoundness.{Passes}
use Rattle.cedar_typing.specs.Examples.World.{gone}
use Rattle.cedar_typing.proofs.Examples.PolicySoundness.{passing}
use Rattle.cedar_typechecker.specs.Slices.Examples.{guided_page}
use Rattle.cedar_typechecker.specs.Slices.Examples.World.{carol, read_context, page, wiki_basis, plain_user, reading, slice_of}
use Rattle.cedar_typechecker.specs.Slices.NeededPremises.Parts.{IsGuidedPageIn, without, idle_carol, asker_is_active, gone_asks}
use Rattle.cedar_typechecker.specs.Slices.NeededPremises.Parts.{MissingEntriesGoWrongIn, ChangedEntriesGoWrongIn, AddedEntriesGoWrongIn}
use Rattle.cedar_typechecker.specs.Slices.NeededPremises.Parts.{PartsAreNeededIn}
use Rattle.cedar_typechecker.proofs.Slices.Examples.Modes.{IsEither, fine}
use Rattle.cedar_typechecker.proofs.Slices.Examples.World.{wiki_conforms, sample_kept, reads, wiki_checker, reading_asked, policy_asked, listed}
use Rattle.cedar_typechecker.proofs.Slices.Examples.World.{without_at, with_other, fails_or_gives, gives_or_fails, false_or_true, differs}

module _ (m : ValidationMode) (either : IsEither m) where
  guided : IsGuidedPageIn m
  guided =
      let found = fine m either Passes wiki_basis guided_page 3
      (passing _ _ _ refl refl refl) (passing _ _ _ refl refl refl) refl refl in
      record {
        asked = reading_asked m;
        policy = policy_asked _ _ _ refl refl refl refl (λ x. refl);
        passes = found.0;
        within = found.1;
      }

  missing : MissingEntriesGoWrongIn m
  missing =
      let part = without carol (slice_of reading 3) in
      record {
        others = guided;
        of_store = listed part reading.store (refl, (refl, (refl, (refl, (refl, tt)))));
        of_slice = λ u n. without_at carol (slice_of reading 3) u n;
        differs = differs guided_page reading part _ _ refl refl (fails_or_gives _ _);
      }

  changed : ChangedEntriesGoWrongIn m
  changed = record {
    others = guided;
    of_store = λ u n. with_other carol idle_carol reading.store u n;
    differs =
        differs guided_page reading ((carol, idle_carol) ∷ reading.store) _ _ refl refl
        false_or_true;
  }

  added : AddedEntriesGoWrongIn m
  added =
      let found = fine m either Passes wiki_basis asker_is_active 1
      (passing _ _ _ refl refl refl) (passing _ _ _ refl refl refl) refl refl in
      record {
        asked = record {
          checker = wiki_checker m;
          conforming = record {
            request = (
              _,
              inl refl,
              record {
                principal = reads.principal;
                action = reads.action;
                resource = reads.resource;
                context = reads.context;
              },
            );
            store = wiki_conforms page read_context;
            functions = sample_kept m;
          };
        };
        policy = policy_asked _ _ _ refl refl refl refl (λ x. refl);
        passes = found.0;
        within = found.1;
        of_slice =
            listed (slice_of gone_asks 1) ((gone, plain_user) ∷ gone_asks.store)
            (refl, (refl, (refl, tt)));
        differs =
            differs asker_is_active gone_asks ((gone, plain_user) ∷ gone_asks.store) _ _ refl refl
            (gives_or_fails _ _);
      }

  pub parts_needed : PartsAreNeededIn m
  parts_needed = record { missing = missing; changed = changed; added = added }
