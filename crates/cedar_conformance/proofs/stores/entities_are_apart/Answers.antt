use Rattle.cedar_types.proofs.Names.Ids.{uids_cmp}
use Rattle.cedar_conformance.proofs.EntityStores.{apart_from_sorted}
use Rattle.cedar_conformance.proofs.stores.entities_are_apart.Goals as goal

pub returns : goal.returns
returns c = apart_from_sorted _ uids_cmp c.args.entities.now.entries.entries c.len-count.ensures.ordered
