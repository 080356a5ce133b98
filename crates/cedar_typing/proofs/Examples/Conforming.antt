-- A world that conforms although much is open in it: all premises hold, and the outcomes of the policies are
-- computed.
use Rattle.std.proofs.Common.{◌≡◌, inl, Bool, true, false, ◌&&◌, ◌||◌, [], ◌∷◌, refl, sym, ◌∙◌}
use Rattle.cedar_types.specs.declared.base.names.slots.SlotId.{SlotId}
use Rattle.cedar_types.specs.declared.base.types.ValidationMode.{ValidationMode}
use Rattle.cedar_types.specs.declared.base.types.ValidationMode.TheVariants.{Strict, Permissive}
use Rattle.cedar_types.specs.Names.{Uid, uid_eq}
use Rattle.cedar_types.specs.Schemas.{declares_action}
use Rattle.cedar_types.specs.Values.Stores.{ConformingStore}
use Rattle.cedar_types.specs.Templates.{condition_of}
use Rattle.cedar_typing.specs.Evaluation.Conformance.{IsBound, ConformingRequest}
use Rattle.cedar_typing.specs.Examples.Conforming.{document, attic, review, edit, review_schema, review_basis, review_store, reviewing}
use Rattle.cedar_typing.specs.Examples.Conforming.{reviewed_policy, linked_policy, ConformityAllowsIn, ConformityAllows}
use Rattle.cedar_typing.specs.Examples.PolicySoundness.{Passes}
use Rattle.cedar_typing.specs.Modes.{IsSoundMode}
use Rattle.cedar_typing.proofs.Composition.Slots.{slots_bound}
use Rattle.cedar_typing.proofs.Examples.PolicySoundness.{passing, meeting_conforms}
use Rattle.cedar_typing.proofs.Examples.World.{AllEntities, none_among, Fitting, IsStored, stored_as, all_fit, in_one, left_out, counted}
use Rattle.cedar_typing.proofs.Examples.World.{HasDeclaredAncestors}

-- ---- the store

-- the actions have the ancestors that the schema declares
ancestors_of_review : HasDeclaredAncestors review_schema review (edit ∷ [])
ancestors_of_review v = go (uid_eq v review) (uid_eq v edit)
  where
    go : (a b : Bool) → (b || false) ≡ ((a && false) || ((b && true) || false))
    go a b = sym (left_out a _ ∙ counted b false)

ancestors_of_edit : HasDeclaredAncestors review_schema edit []
ancestors_of_edit v = go (uid_eq v review) (uid_eq v edit)
  where
    go : (a b : Bool) → false ≡ ((a && false) || ((b && false) || false))
    go a b = sym (left_out a _ ∙ left_out b false)

-- the report, the status that is no member, and the actions
fitting : AllEntities (Fitting review_schema) review_store
fitting = (
  record { attributes = ((refl, tt), (refl, tt)); tagged = refl; ancestors = λ v h. in_one review_schema document attic v refl h },
  (
    record { attributes = refl; ancestors = refl; tags = refl },
    (
      (refl, record { attributes = refl; ancestors = λ v. ancestors_of_review v; tags = refl }),
      ((refl, record { attributes = refl; ancestors = λ v. ancestors_of_edit v; tags = refl }), tt),
    ),
  ),
)

actions_are_stored : (u : Uid) → declares_action review_schema.actions u ≡ true → IsStored review_store u
actions_are_stored u = go (uid_eq u review) (uid_eq u edit) refl refl
  where
    go : (a b : Bool) → uid_eq u review ≡ a → uid_eq u edit ≡ b → (a || (b || false)) ≡ true → IsStored review_store u
    go true b p q h = stored_as review_store u review p (_, refl)
    go false true p q h = stored_as review_store u edit q (_, refl)
    go false false p q h = none_among h

store_conforms : ConformingStore review_schema review_store
store_conforms = all_fit review_schema review_store fitting (λ u h. actions_are_stored u h)

-- ---- the request and the slots

request_conforms : ConformingRequest review_schema reviewing.request
request_conforms = (_, inl refl, record { principal = refl; action = refl; resource = refl; context = (tt, tt) })

all_bound : (x : SlotId) → IsBound (reviewing.slots x)
all_bound x = tt

-- ---- all premises hold

module _ (m : ValidationMode) (sound : IsSoundMode m) where
  allows : Passes (review_basis m) reviewed_policy → Passes (review_basis m) linked_policy → ConformityAllowsIn m
  allows p q = record {
    faultless = refl;
    formed = refl;
    basis = record { mode = sound; closed = refl };
    conforming = record { request = request_conforms; store = store_conforms; functions = meeting_conforms.functions };
    ancestor = (_, refl, refl);
    not_stored = refl;
    enumerated = refl;
    stored = refl;
    acting = refl;
    bound = refl;
    unknown = refl;
    passes = p;
    named = record { types = refl; actions = refl };
    well_formed = record {
      no_unknowns = refl;
      slots_in_scope = λ x. refl;
      bound = slots_bound reviewing.slots all_bound (condition_of reviewed_policy);
    };
    evaluates = refl;
    linked_passes = q;
    linked_named = record { types = refl; actions = refl };
    linked_well_formed = record {
      no_unknowns = refl;
      slots_in_scope = tt;
      bound = slots_bound reviewing.slots all_bound (condition_of linked_policy);
    };
    linked_evaluates = refl;
  }

pub conformity_allows : ConformityAllows
conformity_allows = record {
  strict = allows Strict refl (passing _ _ _ refl refl refl) (passing _ _ _ refl refl refl);
  permissive = allows Permissive refl (passing _ _ _ refl refl refl) (passing _ _ _ refl refl refl);
}
