use Rattle.cedar_types.proofs.Entries.Unions.{Pouring}
use Rattle.cedar_types.proofs.types.sorted_set.SortedSet.with_all.Given as goal

abbrev pub invariant-loop-entry : goal.invariant-loop-entry
invariant-loop-entry g l = Pouring g.T.Ord.cmp l.fn.self l.fn.other l.all l.entry-iterator.rest.items
