use Rattle.std.proofs.Common.{◌≡◌, map}
use Rattle.cedar_types.specs.Types.{ty_of}
use Rattle.cedar_types.specs.Types.Order.{in_order, insert_tys}
use Rattle.cedar_types.proofs.base.types.type_sets.types_in_order.Given as goal

-- The remaining types, put at their places among those so far, are the types in order
abbrev pub invariant-loop-shown : goal.invariant-loop-shown
invariant-loop-shown l = insert_tys (map ty_of l.all.keys) (map ty_of l.shown-iterator.rest.items) ≡ in_order (map ty_of l.fn.types.items)
