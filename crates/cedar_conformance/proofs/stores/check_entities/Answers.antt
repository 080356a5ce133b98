use Rattle.std.proofs.Common.{◌∙◌, sym, true, false}
use Rattle.cedar_types.specs.Schemas.Contents.{schema_of}
use Rattle.cedar_conformance.specs.Entities.{store_of}
use Rattle.cedar_conformance.proofs.Outcomes.{decided, empty_list}
use Rattle.cedar_conformance.proofs.StoreDecisions.{store_decides}
use Rattle.cedar_conformance.proofs.stores.check_entities.Goals as goal

pub returns-then-is_empty-clause-exact : goal.returns-then-is_empty-clause-exact
returns-then-is_empty-clause-exact c =
    decided true _
    (sym c.if-is_empty.true ∙ c.is_empty.ensures ∙ empty_list c.in_ok-faults.faults.len c.in_ok-faults.faults.items c.in_ok-faults.faults.ok.0 ∙ c.in_ok-faults.ensures.none)
    (store_decides (schema_of c.args.schema.now) (store_of c.args.entities.now) c.entities_are_apart.ensures)

pub returns-else-is_empty-clause-exact : goal.returns-else-is_empty-clause-exact
returns-else-is_empty-clause-exact c =
    decided false _
    (sym c.if-is_empty.false ∙ c.is_empty.ensures ∙ empty_list c.in_ok-faults.faults.len c.in_ok-faults.faults.items c.in_ok-faults.faults.ok.0 ∙ c.in_ok-faults.ensures.none)
    (store_decides (schema_of c.args.schema.now) (store_of c.args.entities.now) c.entities_are_apart.ensures)

pub returns-else-is_empty-clause-some : goal.returns-else-is_empty-clause-some
returns-else-is_empty-clause-some c =
    sym (empty_list c.in_ok-faults.faults.len c.in_ok-faults.faults.items c.in_ok-faults.faults.ok.0)
    ∙ sym c.is_empty.ensures ∙ c.if-is_empty.false
