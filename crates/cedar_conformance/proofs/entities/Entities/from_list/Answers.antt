use Rattle.cedar_conformance.specs.Entities.{store_of}
use Rattle.cedar_conformance.proofs.EntityStores.{next_stored}
use Rattle.cedar_conformance.proofs.entities.Entities.from_list.Goals as goal

pub loop-id-preserved : goal.loop-id-preserved
loop-id-preserved c =
    next_stored c.loop-id.yielded (c.in-Some.id, c.in-Some.entity) (store_of c.loop-id.all) (store_of c.add.new.self) c.loop-id.invariant
    c.in_ok-add.ensures.ok
