use Rattle.std.proofs.Common.{◌≡◌, ◌++◌}
use Rattle.std.specs.Map.{values_of}
use Rattle.cedar_host.proofs.reports.in_order.Given as goal

-- the values of the entries so far
abbrev pub invariant-loop-order : goal.invariant-loop-order
invariant-loop-order g l = record {
  values : l.all.items ≡ values_of l.yielded;
  rest : l.yielded ++ l._order-iterator ≡ l.initial._order-iterator;
}
