-- The entity ids that a request reaches in a store within some steps, and the slice: the entries of
-- these ids. Both are defined from data alone: no expression counts.
use Rattle.std.specs.Prelude.{◌≡◌, ℕ, zero, suc, List, [], ◌∷◌, ◌++◌, filter, Option, Some, None}
use Rattle.std.specs.List.{flat_map}
use Rattle.cedar_types.specs.Names.{Uid}
use Rattle.cedar_types.specs.Schemas.{uid_is_among}
use Rattle.cedar_types.specs.Values.Stores.{Entity, Store, entity_at}
use Rattle.cedar_types.specs.Values.{Value, VBool, VLong, VString, VEntity, VSet, VRecord, VExtension, Values, no_values, more_values}
use Rattle.cedar_types.specs.Values.{Entries, no_entries, more_entries}
use Rattle.cedar_typing.specs.Evaluation.World.{Request}

-- ---- the ids in a value

abbrev mutual
  -- each entity id inside a value, at any depth
  pub ids_in : Value → List Uid
  ids_in (VBool b) = []
  ids_in (VLong n) = []
  ids_in (VString t) = []
  ids_in (VEntity u) = u ∷ []
  ids_in (VSet vs) = ids_in_members vs
  ids_in (VRecord es) = ids_in_entries es
  ids_in (VExtension n t) = []

  pub ids_in_members : Values → List Uid
  ids_in_members no_values = []
  ids_in_members (more_values v vs) = ids_in v ++ ids_in_members vs

  -- the ids in all entries. An entry whose key an earlier entry has is never read, and its ids are
  -- reached all the same
  pub ids_in_entries : Entries → List Uid
  ids_in_entries no_entries = []
  ids_in_entries (more_entries k v es) = ids_in v ++ ids_in_entries es

-- ---- steps

-- the ids that an entity holds in its attributes and in its tags; none if it is not stored. Its
-- ancestors do not count, because `in` looks for them in the entity's own entry
abbrev pub ids_of : Option Entity → List Uid
ids_of None = []
ids_of (Some e) = ids_in_entries e.attributes ++ ids_in_entries e.tags

-- the ids that a request reaches in n steps: in zero steps its principal, its action, its resource
-- and the ids in its context; in one more step the ids that the entities of the step before hold.
-- For example, if alice's mentor is bob, a request by alice reaches alice in zero steps and bob in
-- one
abbrev pub reach : Request → Store → ℕ → List Uid
reach r store zero = r.principal ∷ r.action ∷ r.resource ∷ ids_in_entries r.context
reach r store (suc n) = flat_map (λ u. ids_of (entity_at store u)) (reach r store n)

-- the ids that a request reaches in fewer than n steps
abbrev pub reach_below : Request → Store → ℕ → List Uid
reach_below r store zero = []
reach_below r store (suc n) = reach_below r store n ++ reach r store n

-- the slice of n steps: the store's entries, unchanged, of the ids that the request reaches in
-- fewer than n steps. So the slice of zero steps is empty, and that of one step has the entries of
-- the ids that the request itself holds
abbrev pub slice : Request → Store → ℕ → Store
slice r store n = filter (λ e. uid_is_among (reach_below r store n) e.0) store

-- ---- parts of a store

-- each entity that the part has is in the store, unchanged
abbrev pub IsPartOf : Store → Store → Type 0
IsPartOf part store =
    (u : Uid) (e : Entity) → entity_at part u ≡ Some e → entity_at store u ≡ Some e

-- the part has entries of the store alone, and at least those of the slice of n steps: a host may
-- load more
pub record HoldsSlice (r : Request) (store : Store) (n : ℕ) (part : Store) : Type 0 where
  pub of_store : IsPartOf part store
  pub of_slice : IsPartOf (slice r store n) part

-- the slice itself is such a part, and so is the whole store
abbrev pub SlicesHold : Type 0
SlicesHold =
    (r : Request) (store : Store) (n : ℕ)
    → HoldsSlice r store n (slice r store n) × HoldsSlice r store n store
