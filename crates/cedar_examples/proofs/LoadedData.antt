-- The examples of data that was loaded.
use Rattle.std.proofs.Common.{true, [], refl}
use Rattle.cedar_types.specs.declared.base.types.ValidationMode.TheVariants.{Strict}
use Rattle.cedar_typing.specs.Soundness.Policies.{IsSoundAndClosed, IsNamedBySchema}
use Rattle.cedar_typing.specs.Examples.PolicySoundness.{Passes}
use Rattle.cedar_typing.proofs.Examples.PolicySoundness.{passing}
use Rattle.cedar_typing.proofs.Soundness.Policies.{promises_are_kept}
use Rattle.cedar_typechecker.specs.Slices.Examples.World.{wiki_schema, wiki_basis, wiki_store, slice_of}
use Rattle.cedar_typechecker.proofs.Slices.Examples.Levels.{within}
use Rattle.cedar_typechecker.proofs.Slices.Examples.World.{wiki_checker, reading_conforms, listed}
use Rattle.cedar_typechecker.proofs.Slices.Policies.{passing_needs_slice_alone}
use Rattle.cedar_typechecker.proofs.Slices.Stores.{slices_hold}
use Rattle.cedar_host.specs.Slices.{NeedsSliceAlone}
use Rattle.cedar_examples.specs.LoadedData.{zed, zed_in_words, alice_in_words, LoadedDataExamples}
use Rattle.cedar_examples.specs.Promises.{if_active}

wiki_closed : IsSoundAndClosed (wiki_basis Strict)
wiki_closed = record { mode = refl; closed = (wiki_checker Strict).closed }

named : IsNamedBySchema wiki_schema if_active
named = record { types = refl; actions = refl }

passes : Passes (wiki_basis Strict) if_active
passes = passing _ _ _ refl refl refl

needs_one_step : NeedsSliceAlone (wiki_basis Strict) if_active 1
needs_one_step closed world formed conforming = record {
  safe =
      (promises_are_kept (wiki_basis Strict) if_active refl refl refl true [] [] [] [] passes).safe refl wiki_closed named
      world formed conforming;
  same =
      passing_needs_slice_alone (wiki_basis Strict) if_active refl refl refl [] [] [] [] passes 1 wiki_closed named
      (within (wiki_basis Strict) if_active 1 refl) world formed conforming;
}

pub loaded_data_examples : LoadedDataExamples
loaded_data_examples = record {
  needs = needs_one_step;
  unfit = λ h. (h.entities zed _ refl).attributes.0.0;
  held = (slices_hold zed_in_words.request zed_in_words.store 1).0;
  fit = record {
    kept = wiki_store;
    loaded = listed (slice_of zed_in_words 1) wiki_store (refl, (refl, (refl, (refl, tt))));
    stored =
        listed wiki_store zed_in_words.store
        (refl, (refl, (refl, (refl, (refl, (refl, (refl, (refl, tt))))))));
    conforming = record {
      request = (reading_conforms Strict).request;
      store = (reading_conforms Strict).store;
      functions = (reading_conforms Strict).functions;
    };
  };
  is_true = refl;
  wrong_held = (slices_hold alice_in_words.request alice_in_words.store 1).0;
  goes_wrong = λ h. h.0;
}
