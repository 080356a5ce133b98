use Rattle.std.proofs.Common.{sym, subst}
use Rattle.std.specs.List.Sorted.{IsStrictlySortedBy}
use Rattle.cedar_types.proofs.Entries.Ascending.{sorted_none}
use Rattle.cedar_types.proofs.types.sorted_set.SortedSet.new.Goals as goal

pub invariant_of-result : goal.invariant_of-result
invariant_of-result g c =
    subst (IsStrictlySortedBy g.T.Ord.cmp) (sym c.new.ensures.items) (sorted_none g.met.T.Ord.total)
