use Rattle.std.proofs.Common.{◌∙◌, ap, sym, option_map}
use Rattle.cedar_types.specs.Names.{uid_of}
use Rattle.cedar_types.proofs.Names.Ids.{uid_lookup, uids_cmp}
use Rattle.cedar_conformance.specs.Entities.{entity_of}
use Rattle.cedar_conformance.proofs.EntityStores.{lent, stored_at}
use Rattle.cedar_conformance.proofs.entities.Entities.get.Goals as goal

pub returns : goal.returns
returns c =
    let id = c.args.id.now in
    let entries = c.args.self.now.entries.entries in
    lent c.get.result
    ∙ ap (option_map entity_of) (c.get.ensures.value ∙ uid_lookup _ (uid_of id) (λ k. uids_cmp id k) entries)
    ∙ sym (stored_at entries (uid_of id))
