use Rattle.std.proofs.Common.{sym, subst}
use Rattle.std.specs.List.Sorted.{IsStrictlySortedBy}
use Rattle.cedar_types.proofs.Entries.Ascending.{sorted_none}
use Rattle.cedar_conformance.specs.Ids.{shared_cmp}
use Rattle.cedar_conformance.proofs.SharedIds.{shared_total}
use Rattle.cedar_conformance.proofs.ids.Ids.new.Goals as goal

pub invariant_of-result : goal.invariant_of-result
invariant_of-result c = subst (IsStrictlySortedBy shared_cmp) (sym c.new.ensures.items) (sorted_none shared_total)
