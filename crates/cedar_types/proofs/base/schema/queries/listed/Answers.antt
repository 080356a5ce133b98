use Rattle.std.proofs.Common.{◌∙◌, ap, sym, ◌++◌, map, append-nil}
use Rattle.cedar_types.specs.Names.{uid_of, uid_eq, uid_cmp}
use Rattle.cedar_types.specs.Schemas.{has_repeat}
use Rattle.cedar_types.proofs.Names.Ids.{uid_ties, uids_cmp}
use Rattle.cedar_types.proofs.Schema.Listings.{apart_sorted, less_apart}
use Rattle.cedar_types.proofs.base.schema.queries.listed.Goals as goal

pub returns-clause-apart : goal.returns-clause-apart
returns-clause-apart c =
    let there = map (λ k. uid_of k.now) c.loop-action.all.items in
    ap (has_repeat uid_eq) (sym (append-nil there)
    ∙ ap (λ es. there ++ map (λ k. uid_of k.now) es) (sym c.in-None.ensures.steps.0) ∙ c.loop-action.invariant)
    ∙ apart_sorted _ (λ k. uid_of k.now) uid_eq
    (λ a b l. less_apart (uid_cmp (uid_of a.now) (uid_of b.now)) (uid_eq (uid_of a.now) (uid_of b.now))
    (sym (uids_cmp a.now b.now) ∙ l) (uid_ties (uid_of a.now) (uid_of b.now)))
    c.args.actions.now.keys c.iter-action-items.ensures.ordered
