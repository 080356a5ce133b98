-- Entities in memory, as a store.
use Rattle.std.specs.Prelude.{◌≡◌, List, [], ◌∷◌, ◌++◌, codes, map, Bool, true, false, Some, if◌then◌else◌}
use Rattle.std.proofs.Common.{inl, inr}
use Rattle.cedar_types.specs.Names.{Uid, uid_of, uid_eq}
use Rattle.cedar_types.specs.Values.Stores.{Entity, entity_at}
use Rattle.cedar_types.specs.Values.{Value, VEntity, VSet, Values, no_values, more_values, Entries, no_entries, more_entries}
use Rattle.cedar_host.specs.Loading.{AreAmong}
use Rattle.cedar_examples.specs.declared.memory.Linked.{Linked}
use Rattle.cedar_typechecker.specs.Slices.Reach.{ids_of, ids_in_members}
use Rattle.cedar_typechecker.proofs.Levels.Inclusions.{in_either}
use Rattle.cedar_typing.specs.Evaluation.Conformance.{IsOneOf}

-- the members of a set of entities
abbrev pub members : List Uid → Values
members [] = no_values
members (u ∷ us) = more_values (VEntity u) (members us)

-- an entity with the set of its links as its one attribute
abbrev pub entity_of : Linked → Entity
entity_of e = record {
  attributes = more_entries (codes "links") (VSet (members (map uid_of e.links.items))) no_entries;
  ancestors = [];
  tags = no_entries;
}

abbrev pub stored : Linked → Uid × Entity
stored e = (uid_of e.id, entity_of e)

-- the answer for an id: the links of the first entity that has it
abbrev pub links_of : List Linked → Uid → List Uid
links_of [] u = []
links_of (e ∷ es) u = if uid_eq u (uid_of e.id) then map uid_of e.links.items else links_of es u

-- ---- the answer has all ids

in_members : (us : List Uid) (v : Uid) → IsOneOf v (ids_in_members (members us)) → IsOneOf v us
in_members [] v h = h
in_members (u ∷ us) v (inl e) = inl e
in_members (u ∷ us) v (inr h) = inr (in_members us v h)

in_front : (us : List Uid) (v : Uid) → IsOneOf v (us ++ []) → IsOneOf v us
in_front us v h = in_either us [] v (IsOneOf v us) h (λ i. i) (λ i. absurd i)

in_entity : (e : Linked) → AreAmong (ids_of (Some (entity_of e))) (map uid_of e.links.items)
in_entity e v h =
    let us = map uid_of e.links.items in
    let ids = ids_in_members (members us) in
    in_members us v (in_front ids v (in_front (ids ++ []) v h))

pub links_are_held :
    (es : List Linked) (u : Uid) → AreAmong (ids_of (entity_at (map stored es) u)) (links_of es u)
links_are_held [] u v h = h
links_are_held (e ∷ es) u v h = at_first (uid_eq u (uid_of e.id)) (links_are_held es u) v h
  where
    at_first : (b : Bool) → AreAmong (ids_of (entity_at (map stored es) u)) (links_of es u)
        → AreAmong (ids_of (if b then Some (entity_of e) else entity_at (map stored es) u))
        (if b then map uid_of e.links.items else links_of es u)
    at_first true later = in_entity e
    at_first false later = later
