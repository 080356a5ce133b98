use Rattle.std.proofs.Common.{◌∙◌, ap, sym, not}
use Rattle.cedar_types.specs.Names.{uid_of}
use Rattle.cedar_types.specs.Values.Stores.{entity_at}
use Rattle.cedar_types.proofs.Names.Ids.{uids_cmp}
use Rattle.cedar_types.proofs.Schema.Places.{is_none}
use Rattle.cedar_conformance.specs.Entities.{entity_of, stored_all}
use Rattle.cedar_conformance.proofs.EntityStores.{stored_there, inserted, pushed, there_already}
use Rattle.cedar_conformance.proofs.entities.Entities.add.Goals as goal

pub returns-then-contains_key-clause-ok : goal.returns-then-contains_key-clause-ok
returns-then-contains_key-clause-ok c u =
    let id = c.args.id in
    let entries = c.args.self.now.entries.entries in
    there_already (stored_all entries) (uid_of id) (entity_of c.args.entity) u
    (stored_there _ (uid_of id) (λ k. uids_cmp id k) entries ∙ sym c.contains_key.ensures
    ∙ c.if-contains_key.true)

pub returns-clause-ok : goal.returns-clause-ok
returns-clause-ok c u =
    let id = c.args.id in
    let entries = c.args.self.now.entries.entries in
    ap (λ es. entity_at (stored_all es) u) c.in_ok-insert.ensures.entries
    ∙ inserted _ uids_cmp entries id c.args.entity u
    ∙ sym (pushed (stored_all entries) (uid_of id) (entity_of c.args.entity) u
    (is_none _ (stored_there _ (uid_of id) (λ k. uids_cmp id k) entries
    ∙ sym c.contains_key.ensures ∙ c.if-contains_key.false)))

pub returns-then-contains_key-clause-counts : goal.returns-then-contains_key-clause-counts
returns-then-contains_key-clause-counts c =
    ap not
    (sym (stored_there _ (uid_of c.args.id) (λ k. uids_cmp c.args.id k) c.args.self.now.entries.entries
    ∙ sym c.contains_key.ensures ∙ c.if-contains_key.true))

pub returns-clause-counts : goal.returns-clause-counts
returns-clause-counts c =
    ap not
    (sym (stored_there _ (uid_of c.args.id) (λ k. uids_cmp c.args.id k) c.args.self.now.entries.entries
    ∙ sym c.contains_key.ensures ∙ c.if-contains_key.false))
