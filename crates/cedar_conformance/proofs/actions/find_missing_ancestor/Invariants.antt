use Rattle.std.proofs.Common.{◌≡◌, map, drop}
use Rattle.std.specs.List.{list_all}
use Rattle.cedar_types.specs.Names.{uid_of}
use Rattle.cedar_types.specs.Schemas.Contents.{schema_of}
use Rattle.cedar_types.specs.Schemas.Declarations.{declared_action}
use Rattle.cedar_conformance.specs.Entities.{entity_of}
use Rattle.cedar_conformance.specs.StoreTests.{has_its_ancestor}
use Rattle.cedar_conformance.proofs.Among.{IsAmong}
use Rattle.cedar_conformance.proofs.actions.find_missing_ancestor.Given as goal

-- the actions that are left decide
abbrev pub invariant-loop-action : goal.invariant-loop-action
invariant-loop-action l = record {
  none : list_all (has_its_ancestor (uid_of l.fn.id) (entity_of l.fn.entity))
      (map (λ a. declared_action a.now) (drop l.action-index l.action-items))
      ≡ list_all (has_its_ancestor (uid_of l.fn.id) (entity_of l.fn.entity)) (schema_of l.fn.schema).actions;
  among : IsAmong (map (λ a. declared_action a.now) (drop l.action-index l.action-items)) (schema_of l.fn.schema).actions;
}
