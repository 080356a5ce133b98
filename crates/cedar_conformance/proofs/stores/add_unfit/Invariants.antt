use Rattle.std.proofs.Common.{◌≡◌, ◌&&◌, true}
use Rattle.std.specs.List.{list_all}
use Rattle.cedar_types.specs.Schemas.Contents.{schema_of}
use Rattle.cedar_conformance.specs.Answers.{lists_none}
use Rattle.cedar_conformance.specs.Entities.{stored_all, store_of}
use Rattle.cedar_conformance.specs.EntityFaults.{all_there}
use Rattle.cedar_conformance.specs.StoreTests.{fits_schema}
use Rattle.cedar_conformance.proofs.Among.{IsAmong}
use Rattle.cedar_conformance.proofs.stores.add_unfit.Given as goal

-- the faults so far and the entities that are left decide, and each fault is there
abbrev pub invariant-loop-id : goal.invariant-loop-id
invariant-loop-id l = record {
  none : (lists_none l.faults.items && list_all (fits_schema (schema_of l.fn.schema)) (stored_all l.id-iterator))
      ≡ (lists_none l.fn.faults.items && list_all (fits_schema (schema_of l.fn.schema)) (store_of l.fn.entities));
  among : IsAmong (stored_all l.id-iterator) (store_of l.fn.entities);
  there : all_there (schema_of l.fn.schema) (store_of l.fn.entities) l.fn.faults.items ≡ true
      → all_there (schema_of l.fn.schema) (store_of l.fn.entities) l.faults.items ≡ true;
}
