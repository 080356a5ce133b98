use Rattle.std.proofs.Common.{sym, subst, insert}
use Rattle.std.specs.List.Sorted.{IsStrictlySortedBy}
use Rattle.cedar_types.specs.Capability.Entries.{HasOneMore}
use Rattle.cedar_types.proofs.Entries.Searches.{there_already, inserted_sorted, inserted_more}
use Rattle.cedar_types.proofs.types.entries.add_entry.Goals as goal

pub returns-in-Ok-clause-added : goal.returns-in-Ok-clause-added
returns-in-Ok-clause-added g c =
    subst (λ xs. HasOneMore g.T.Ord.cmp xs c.args.entry xs) c.deref.ensures.value
    (there_already g.met.T.Ord.total c.deref.result.now c.in-Ok.field-0 c.args.entry c.in-Ok.ensures.bound c.in-Ok.ensures.position)

pub returns-in_ok-insert-in-Err-clause-ascending :
    goal.returns-in_ok-insert-in-Err-clause-ascending
returns-in_ok-insert-in-Err-clause-ascending g c =
    subst (IsStrictlySortedBy g.T.Ord.cmp) (sym c.in_ok-insert-in-Err.ensures.items)
    (subst (λ xs. IsStrictlySortedBy g.T.Ord.cmp (insert xs c.in-Err.place c.args.entry)) c.deref.ensures.value
    (inserted_sorted g.met.T.Ord.total c.deref.result.now c.in-Err.place c.args.entry
    (subst (IsStrictlySortedBy g.T.Ord.cmp) (sym c.deref.ensures.value) c.requires) c.in-Err.ensures.position))

pub returns-in_ok-insert-in-Err-clause-added : goal.returns-in_ok-insert-in-Err-clause-added
returns-in_ok-insert-in-Err-clause-added g c =
    subst (HasOneMore g.T.Ord.cmp c.args.entries.now.items c.args.entry) (sym c.in_ok-insert-in-Err.ensures.items)
    (inserted_more g.met.T.Ord.total c.args.entries.now.items c.in-Err.place c.args.entry)
