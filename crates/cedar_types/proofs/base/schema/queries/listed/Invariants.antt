use Rattle.std.proofs.Common.{◌≡◌, ◌++◌, map}
use Rattle.cedar_types.specs.Names.{uid_of}
use Rattle.cedar_types.proofs.base.schema.queries.listed.Given as goal

-- The listed actions, and then the remaining actions, are all actions
abbrev pub invariant-loop-action : goal.invariant-loop-action
invariant-loop-action l =
    map (λ k. uid_of k.now) l.all.items ++ map (λ k. uid_of k.now) l.action-iterator
    ≡ map (λ k. uid_of k.now) l.fn.actions.keys
