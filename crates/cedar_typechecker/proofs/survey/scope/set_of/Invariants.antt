use Rattle.std.proofs.Common.{◌≡◌, ◌||◌, map, drop}
use Rattle.cedar_types.specs.Names.{Uid, uid_of}
use Rattle.cedar_types.specs.Schemas.{uid_is_among}
use Rattle.cedar_typechecker.proofs.survey.scope.set_of.Given as goal

-- the actions in the set, with the actions that are left, are all actions
abbrev pub invariant-loop-action : goal.invariant-loop-action
invariant-loop-action l =
    (u : Uid) → (uid_is_among (map uid_of l.set.keys) u
    || uid_is_among (map (λ a. uid_of a.now) (drop l.action-index l.actions)) u)
    ≡ uid_is_among (map (λ a. uid_of a.now) l.fn.actions) u
