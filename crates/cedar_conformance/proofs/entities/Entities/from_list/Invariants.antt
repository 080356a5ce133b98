use Rattle.cedar_conformance.specs.Entities.{store_of, stored_all, IsSameStore}
use Rattle.cedar_conformance.proofs.entities.Entities.from_list.Given as goal

-- the store is that of the entries so far
abbrev pub invariant-loop-id : goal.invariant-loop-id
invariant-loop-id l = IsSameStore (store_of l.all) (stored_all l.yielded)
