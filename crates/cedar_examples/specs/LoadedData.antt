-- Entries of a store that need to conform if a policy is evaluated over a part of the store: those
-- of the part, and the actions.
use Rattle.std.specs.Prelude.{◌≡◌, true, ◌∷◌, codes}
use Rattle.cedar_types.specs.declared.base.types.ValidationMode.TheVariants.{Strict}
use Rattle.cedar_types.specs.Names.{Uid}
use Rattle.cedar_types.specs.Templates.{condition_of}
use Rattle.cedar_types.specs.Values.{VBool, no_entries, more_entries}
use Rattle.cedar_types.specs.Values.Stores.{Entity, ConformingStore}
use Rattle.cedar_typing.specs.Evaluation.Eval.{eval}
use Rattle.cedar_typing.specs.Evaluation.World.{World, Gives}
use Rattle.cedar_typing.specs.Examples.Greeting.{words}
use Rattle.cedar_typing.specs.Examples.World.{user_named, alice}
use Rattle.cedar_typing.specs.Soundness.PolicyCheck.{IsBooleanOrAllowed}
use Rattle.cedar_typechecker.specs.Slices.Examples.World.{wiki_schema, wiki_basis, stored_alice, wiki_store, reading, slice_of}
use Rattle.cedar_typechecker.specs.Slices.Reach.{HoldsSlice}
use Rattle.cedar_typechecker.specs.Slices.Soundness.{with_store}
use Rattle.cedar_host.specs.LoadedOutcomes.{ConformsAsLoaded}
use Rattle.cedar_host.specs.Slices.{NeedsSliceAlone}
use Rattle.cedar_examples.specs.Promises.{if_active}

-- a user whose boolean attribute is stored as a text
abbrev pub in_words : Entity
in_words = record stored_alice { attributes = more_entries (codes "active") (words (codes "yes")) no_entries }

abbrev pub zed : Uid
zed = user_named (codes "zed")

-- a world in which alice reads the home page, and zed, who is not reached, is stored so
abbrev pub zed_in_words : World
zed_in_words = record reading { store = (zed, in_words) ∷ wiki_store }

-- a world in which alice herself is stored so
abbrev pub alice_in_words : World
alice_in_words = record reading { store = (alice, in_words) ∷ wiki_store }

pub record LoadedDataExamples : Type 0 where
  -- the policy needs the slice of one step alone
  pub needs : NeedsSliceAlone (wiki_basis Strict) if_active 1
  -- the store does not conform, the slice does beside other entries, and the policy is true there
  pub unfit : ConformingStore wiki_schema zed_in_words.store → ⊥
  pub held : HoldsSlice zed_in_words.request zed_in_words.store 1 (slice_of zed_in_words 1)
  pub fit : ConformsAsLoaded (wiki_basis Strict) zed_in_words (slice_of zed_in_words 1)
  pub is_true : eval (with_store zed_in_words (slice_of zed_in_words 1)) (condition_of if_active) ≡ Gives (VBool true)
  -- the policy goes wrong if an entity of the slice does not conform
  pub wrong_held : HoldsSlice alice_in_words.request alice_in_words.store 1 (slice_of alice_in_words 1)
  pub goes_wrong : IsBooleanOrAllowed (eval (with_store alice_in_words (slice_of alice_in_words 1)) (condition_of if_active)) → ⊥
