use Rattle.std.proofs.Common.{◌≡◌, drop}
use Rattle.std.specs.List.{list_all}
use Rattle.cedar_types.specs.Names.{uid_of}
use Rattle.cedar_types.specs.Schemas.Contents.{schema_of}
use Rattle.cedar_types.specs.Values.Stores.{declares_ancestor}
use Rattle.cedar_conformance.specs.Entities.{entity_of}
use Rattle.cedar_conformance.specs.Ids.{ids_of}
use Rattle.cedar_conformance.proofs.Among.{IsAmong}
use Rattle.cedar_conformance.proofs.actions.find_undeclared_ancestor.Given as goal

-- the ancestors that are left decide
abbrev pub invariant-loop-shared : goal.invariant-loop-shared
invariant-loop-shared l = record {
  none : list_all (declares_ancestor (schema_of l.fn.schema).actions (uid_of l.fn.id)) (ids_of (drop l.shared-index l.ids))
      ≡ list_all (declares_ancestor (schema_of l.fn.schema).actions (uid_of l.fn.id)) (entity_of l.fn.entity).ancestors;
  among : IsAmong (ids_of (drop l.shared-index l.ids)) (entity_of l.fn.entity).ancestors;
}
