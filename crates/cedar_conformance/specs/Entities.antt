-- Entities of a program, as a store.
use Rattle.std.specs.Prelude.{◌≡◌, List, map}
use Rattle.cedar_types.specs.Names.{Uid, uid_of}
use Rattle.cedar_types.specs.Values.Stores as store
use Rattle.cedar_types.specs.Values.Stores.{Store, entity_at}
use Rattle.cedar_types.specs.declared.base.names.entities.EntityUID.{EntityUID}
use Rattle.cedar_conformance.specs.declared.entities.Entity.{Entity}
use Rattle.cedar_conformance.specs.declared.entities.Entities.{Entities}
use Rattle.cedar_conformance.specs.Ids.{ids_of}
use Rattle.cedar_conformance.specs.Values.{record_of}

abbrev pub entity_of : Entity → store.Entity
entity_of e = record {
  attributes = record_of e.attributes;
  ancestors = ids_of e.ancestors;
  tags = record_of e.tags;
}

-- an entity under its id
abbrev pub stored_of : EntityUID × Entity → Uid × store.Entity
stored_of e = (uid_of e.0, entity_of e.1)

abbrev pub stored_all : List (EntityUID × Entity) → Store
stored_all es = map stored_of es

abbrev pub store_of : Entities → Store
store_of es = stored_all es.entries.entries

-- two stores have the same entity at each id
abbrev pub IsSameStore : Store → Store → Type 0
IsSameStore s t = (u : Uid) → entity_at s u ≡ entity_at t u
