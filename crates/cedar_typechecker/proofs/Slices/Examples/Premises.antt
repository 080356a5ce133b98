-- The premises of slice soundness hold together, and the reached ids are computed.
use Rattle.std.proofs.Common.{◌≡◌, inl, true, refl}
use Rattle.cedar_types.specs.declared.base.types.ValidationMode.{ValidationMode}
use Rattle.cedar_types.specs.declared.base.types.ValidationMode.TheVariants.{Strict, Permissive}
use Rattle.cedar_types.specs.Templates.{PlainTemplate, condition_of}
use Rattle.cedar_types.specs.Values.{VBool}
use Rattle.cedar_typing.specs.Modes.{IsSoundMode}
use Rattle.cedar_typing.specs.Evaluation.Eval.{eval}
use Rattle.cedar_typing.specs.Evaluation.World.{MissingEntity, Gives, Fails}
use Rattle.cedar_typing.specs.Examples.PolicySoundness.{Passes}
use Rattle.cedar_typing.specs.Soundness.Policies.{IsNamedBySchema, IsWellFormed}
use Rattle.cedar_typing.proofs.Examples.PolicySoundness.{passing}
use Rattle.cedar_typechecker.specs.Levels.Errors.{exceeds}
use Rattle.cedar_typechecker.specs.Slices.Examples.{HasLevelError, guided_page, guided_either, AllPremisesHold, SlicePremisesAreMet}
use Rattle.cedar_typechecker.specs.Slices.Examples.{SlicesAreAsSaid}
use Rattle.cedar_typechecker.specs.Slices.Examples.World.{wiki_schema, wiki_basis, reading, slice_of}
use Rattle.cedar_typechecker.specs.Slices.Policies.{PolicyIsWithinLevel}
use Rattle.cedar_typechecker.specs.Slices.Soundness.{with_store}
use Rattle.cedar_typechecker.proofs.Slices.Examples.Levels.{within, has_error}
use Rattle.cedar_typechecker.proofs.Slices.Examples.World.{wiki_checker, reading_conforms, formed, held}

all_hold : (m : ValidationMode) → IsSoundMode m → (t : PlainTemplate)
    → IsNamedBySchema wiki_schema t → IsWellFormed t reading.slots
    → eval (with_store reading (slice_of reading 3)) (condition_of t) ≡ Gives (VBool true)
    → eval reading (condition_of t) ≡ Gives (VBool true)
    → eval (with_store reading (slice_of reading 2)) (condition_of t) ≡ Fails MissingEntity
    → Passes (wiki_basis m) t → PolicyIsWithinLevel (wiki_basis m) t 3
    → HasLevelError (wiki_basis m) t 2 (exceeds 2 3) → AllPremisesHold m t
all_hold m sound t named well_formed in_slice in_store too_small p w e = record {
  faultless = refl;
  formed = refl;
  faultless_functions = refl;
  passes = p;
  basis = record { mode = sound; closed = (wiki_checker m).closed };
  named = named;
  within_three = w;
  beyond_two = e;
  well_formed = well_formed;
  conforming = reading_conforms m;
  held = held reading 3 (refl, (refl, (refl, (refl, (refl, (refl, tt))))));
  stored = refl;
  left_out = refl;
  in_slice = in_slice;
  in_store = in_store;
  too_small = too_small;
}

guided : (m : ValidationMode) → IsSoundMode m → Passes (wiki_basis m) guided_page
    → PolicyIsWithinLevel (wiki_basis m) guided_page 3
    → HasLevelError (wiki_basis m) guided_page 2 (exceeds 2 3) → AllPremisesHold m guided_page
guided m sound =
    all_hold m sound guided_page (record { types = refl; actions = refl })
    (formed guided_page refl (λ x. refl)) refl refl refl

pub slice_premises : SlicePremisesAreMet
slice_premises = record {
  strict =
      guided Strict refl (passing _ _ _ refl refl refl) (within (wiki_basis Strict) guided_page 3 refl)
      (has_error (wiki_basis Strict) guided_page 2 (exceeds 2 3) _ (inl refl) refl);
  permissive =
      guided Permissive refl (passing _ _ _ refl refl refl)
      (within (wiki_basis Permissive) guided_page 3 refl)
      (has_error (wiki_basis Permissive) guided_page 2 (exceeds 2 3) _ (inl refl) refl);
  united =
      all_hold Permissive refl guided_either (record { types = refl; actions = refl })
      (formed guided_either refl (λ x. refl)) refl refl refl (passing _ _ _ refl refl refl)
      (within (wiki_basis Permissive) guided_either 3 refl)
      (has_error (wiki_basis Permissive) guided_either 2 (exceeds 2 3) _ (inl refl) refl);
  strict_refuses = refl;
}

pub slices_as_said : SlicesAreAsSaid
slices_as_said = record {
  nested = refl;
  no_id = refl;
  one_key_twice = refl;
  of_entity = refl;
  of_tags = refl;
  not_stored = refl;
  reach_0 = refl;
  reach_1 = refl;
  reach_2 = refl;
  reach_3 = refl;
  reach_4 = refl;
  first_entry = refl;
  slice_0 = refl;
  slice_1 = refl;
  slice_2 = refl;
  slice_4 = refl;
}
