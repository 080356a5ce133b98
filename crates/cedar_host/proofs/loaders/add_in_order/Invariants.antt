use Rattle.std.proofs.Common.{◌≡◌, map}
use Rattle.cedar_types.specs.Names.{Uid, uid_of}
use Rattle.cedar_types.specs.Values.Stores.{entity_at}
use Rattle.cedar_typing.specs.Evaluation.Conformance.{IsOneOf}
use Rattle.cedar_conformance.specs.Entities.{store_of}
use Rattle.cedar_host.proofs.loaders.add_in_order.Given as goal

-- the entities keep their entries for other ids
abbrev pub invariant-loop-id : goal.invariant-loop-id
invariant-loop-id l =
    (u : Uid) → (IsOneOf u (map uid_of l.ids) → ⊥)
    → entity_at (store_of l.entities) u ≡ entity_at (store_of l.fn.entities) u
