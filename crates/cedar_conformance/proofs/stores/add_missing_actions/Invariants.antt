use Rattle.std.proofs.Common.{◌≡◌, ◌&&◌, true, map, drop}
use Rattle.cedar_types.specs.Schemas.Contents.{schema_of}
use Rattle.cedar_types.specs.Schemas.Declarations.{declared_action}
use Rattle.cedar_conformance.specs.Answers.{lists_none}
use Rattle.cedar_conformance.specs.Entities.{store_of}
use Rattle.cedar_conformance.specs.EntityFaults.{all_there}
use Rattle.cedar_conformance.specs.StoreTests.{are_there}
use Rattle.cedar_conformance.proofs.Among.{IsAmong}
use Rattle.cedar_conformance.proofs.stores.add_missing_actions.Given as goal

-- the faults so far and the actions that are left decide, and each fault is there
abbrev pub invariant-loop-action : goal.invariant-loop-action
invariant-loop-action l = record {
  none : (lists_none l.faults.items
      && are_there (map (λ a. declared_action a.now) (drop l.action-index l.action-items)) (store_of l.fn.entities))
      ≡ (lists_none l.fn.faults.items && are_there (schema_of l.fn.schema).actions (store_of l.fn.entities));
  among : IsAmong (map (λ a. declared_action a.now) (drop l.action-index l.action-items)) (schema_of l.fn.schema).actions;
  there : all_there (schema_of l.fn.schema) (store_of l.fn.entities) l.fn.faults.items ≡ true
      → all_there (schema_of l.fn.schema) (store_of l.fn.entities) l.faults.items ≡ true;
}
