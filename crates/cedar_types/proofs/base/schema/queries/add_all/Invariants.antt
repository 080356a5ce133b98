use Rattle.std.proofs.Common.{◌≡◌, ◌||◌, map}
use Rattle.cedar_types.specs.Names.{Uid, uid_of}
use Rattle.cedar_types.specs.Schemas.Declarations.{uids_of}
use Rattle.cedar_types.specs.Schemas.{uid_is_among}
use Rattle.cedar_types.proofs.base.schema.queries.add_all.Given as goal

-- The actions in the set and the remaining actions are all actions
abbrev pub invariant-loop-other : goal.invariant-loop-other
invariant-loop-other l =
    (u : Uid) → (uid_is_among (map (λ k. uid_of k.now) l.actions.keys) u
    || uid_is_among (map uid_of l.other-iterator) u) ≡ (uid_is_among (map (λ k. uid_of k.now) l.fn.actions.keys) u
    || uid_is_among (uids_of l.fn.others) u)
