use Rattle.std.proofs.Common.{All}
use Rattle.std.specs.List.Sorted.{IsStrictlySortedBy}
use Rattle.std.specs.Map.{keys_of}
use Rattle.cedar_host.proofs.ReportOrder.{order_cmp, IsPlaced}
use Rattle.cedar_host.proofs.reports.errors.Given as goal

-- each error has the place of its key, and the keys ascend
abbrev pub invariant-loop-error : goal.invariant-loop-error
invariant-loop-error l = record {
  placed : All (IsPlaced (λ s. s.place)) l.ordered.entries;
  ordered : IsStrictlySortedBy order_cmp (keys_of l.ordered.entries);
}
