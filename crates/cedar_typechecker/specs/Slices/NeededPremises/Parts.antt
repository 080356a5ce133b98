-- The premises on the part are needed: it has each entry of the slice, and entries of the store
-- alone. In each part one entry is missing, changed or added.
use Rattle.std.specs.Prelude.{◌≡◌, not, true, false, ◌∷◌, filter, codes}
use Rattle.cedar_types.specs.declared.base.types.ValidationMode.{ValidationMode}
use Rattle.cedar_types.specs.Names.{Uid, uid_eq}
use Rattle.cedar_types.specs.Values.Stores.{Entity, Store, entity_at}
use Rattle.cedar_types.specs.Templates.{PlainTemplate}
use Rattle.cedar_types.specs.Values.{VBool, no_entries, more_entries}
use Rattle.cedar_typing.specs.Evaluation.World.{World, MissingEntity, Gives, Fails}
use Rattle.cedar_typing.specs.Examples.Expressions.{context, dot}
use Rattle.cedar_typing.specs.Examples.PolicySoundness.{Passes, policy_when}
use Rattle.cedar_typing.specs.Examples.World.{gone}
use Rattle.cedar_typechecker.specs.Slices.Examples.{active_of, guided_page}
use Rattle.cedar_typechecker.specs.Slices.Examples.World.{carol, wiki_basis, stored_carol, plain_user, asked_by, reading, slice_of}
use Rattle.cedar_typechecker.specs.Slices.NeededPremises.Differing.{IsAskedIn, IsAskedPolicy, DiffersIn}
use Rattle.cedar_typechecker.specs.Slices.Policies.{PolicyIsWithinLevel}
use Rattle.cedar_typechecker.specs.Slices.Reach.{IsPartOf}

-- all premises but those on the part, at level 3
pub record IsGuidedPageIn (m : ValidationMode) : Type 0 where
  pub asked : IsAskedIn m (wiki_basis m) reading
  pub policy : IsAskedPolicy (wiki_basis m) guided_page reading
  pub passes : Passes (wiki_basis m) guided_page
  pub within : PolicyIsWithinLevel (wiki_basis m) guided_page 3

-- ---- an entry that is missing

-- a store without an entity
abbrev pub without : Uid → Store → Store
without u store = filter (λ e. not (uid_eq u e.0)) store

-- the part is the slice of 3 steps without carol
pub record MissingEntriesGoWrongIn (m : ValidationMode) : Type 0 where
  pub others : IsGuidedPageIn m
  pub of_store : IsPartOf (without carol (slice_of reading 3)) reading.store
  pub of_slice : (u : Uid) → (u ≡ carol → ⊥)
      → entity_at (without carol (slice_of reading 3)) u ≡ entity_at (slice_of reading 3) u
  pub differs : DiffersIn guided_page reading (without carol (slice_of reading 3))
      (Fails MissingEntity) (Gives (VBool true))

-- ---- an entry that is changed

-- carol, who is not active
abbrev pub idle_carol : Entity
idle_carol = record stored_carol {
  attributes = more_entries (codes "active") (VBool false) no_entries;
}

-- the part is the whole store with this entry for carol
pub record ChangedEntriesGoWrongIn (m : ValidationMode) : Type 0 where
  pub others : IsGuidedPageIn m
  pub of_store : (u : Uid) → (u ≡ carol → ⊥)
      → entity_at ((carol, idle_carol) ∷ reading.store) u ≡ entity_at reading.store u
  pub differs : DiffersIn guided_page reading ((carol, idle_carol) ∷ reading.store)
      (Gives (VBool false)) (Gives (VBool true))

-- ---- an entry that the store does not have

-- `context.asker.active`
abbrev pub asker_is_active : PlainTemplate
asker_is_active = policy_when (active_of (dot context (codes "asker")))

-- a request that a user asks for of whom nothing is stored
abbrev pub gone_asks : World
gone_asks = record reading { request = record reading.request { context = asked_by gone } }

-- the part is the whole store with an entry for that user
pub record AddedEntriesGoWrongIn (m : ValidationMode) : Type 0 where
  pub asked : IsAskedIn m (wiki_basis m) gone_asks
  pub policy : IsAskedPolicy (wiki_basis m) asker_is_active gone_asks
  pub passes : Passes (wiki_basis m) asker_is_active
  pub within : PolicyIsWithinLevel (wiki_basis m) asker_is_active 1
  pub of_slice : IsPartOf (slice_of gone_asks 1) ((gone, plain_user) ∷ gone_asks.store)
  pub differs : DiffersIn asker_is_active gone_asks ((gone, plain_user) ∷ gone_asks.store)
      (Gives (VBool true)) (Fails MissingEntity)

pub record PartsAreNeededIn (m : ValidationMode) : Type 0 where
  pub missing : MissingEntriesGoWrongIn m
  pub changed : ChangedEntriesGoWrongIn m
  pub added : AddedEntriesGoWrongIn m
