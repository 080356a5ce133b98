use Rattle.std.proofs.Common.{◌≡◌, ◌++◌, map}
use Rattle.cedar_types.specs.Names.{uid_of}
use Rattle.cedar_typing.specs.Rules.Membership.{only_actions}
use Rattle.cedar_typing.proofs.typecheck.rules.membership.only_actions.Given as goal

-- the actions so far, and those of the entities that are left
abbrev pub invariant-loop-entity : goal.invariant-loop-entity
invariant-loop-entity l =
    map uid_of l.actions.items ++ only_actions (map uid_of l.entity-iterator.rest.items)
    ≡ only_actions (map uid_of l.fn.entities.items)
