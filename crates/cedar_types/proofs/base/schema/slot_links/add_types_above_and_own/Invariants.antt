use Rattle.std.proofs.Common.{◌≡◌, ◌++◌, map, drop, Some}
use Rattle.cedar_types.specs.Schemas.Declarations.{declared_type}
use Rattle.cedar_types.specs.Environments.Linking.{types_above}
use Rattle.cedar_types.specs.Environments.LinkViews.{link_of}
use Rattle.cedar_types.specs.Names.{type_of}
use Rattle.cedar_types.proofs.base.schema.slot_links.add_types_above_and_own.Given as goal

-- The links so far, and the types above among the remaining types, are all links
abbrev pub invariant-loop-declared : goal.invariant-loop-declared
invariant-loop-declared l =
    map link_of l.links.items
    ++ map (λ p. Some p) (types_above (map declared_type (drop l.declared-index l.declared-items))
    (type_of l.own))
    ≡ map link_of l.initial.links.items
    ++ map (λ p. Some p) (types_above (map declared_type l.initial.schema.types.declared.items) (type_of l.own))
