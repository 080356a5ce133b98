use Rattle.std.proofs.Common.{◌≡◌, drop}
use Rattle.std.specs.List.{list_all}
use Rattle.cedar_types.specs.Names.{type_of}
use Rattle.cedar_types.specs.Schemas.Contents.{schema_of}
use Rattle.cedar_conformance.specs.Ids.{ids_of}
use Rattle.cedar_conformance.specs.StoreTests.{ancestor_fits}
use Rattle.cedar_conformance.proofs.Among.{IsAmong}
use Rattle.cedar_conformance.proofs.stored.find_in_ancestors.Given as goal

-- the ancestors that are left decide
abbrev pub invariant-loop-shared : goal.invariant-loop-shared
invariant-loop-shared l = record {
  none : list_all (ancestor_fits (schema_of l.fn.schema).types (type_of l.fn.id.entity_type)) (ids_of (drop l.shared-index l.ids))
      ≡ list_all (ancestor_fits (schema_of l.fn.schema).types (type_of l.fn.id.entity_type)) (ids_of l.fn.ancestors);
  among : IsAmong (ids_of (drop l.shared-index l.ids)) (ids_of l.fn.ancestors);
}
