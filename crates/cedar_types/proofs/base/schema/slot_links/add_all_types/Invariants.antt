use Rattle.std.proofs.Common.{◌≡◌, ◌++◌, map, drop, Some}
use Rattle.cedar_types.specs.Schemas.Declarations.{declared_type}
use Rattle.cedar_types.specs.Environments.Linking.{type_names}
use Rattle.cedar_types.specs.Environments.LinkViews.{link_of}
use Rattle.cedar_types.proofs.base.schema.slot_links.add_all_types.Given as goal

-- The links so far, and the remaining types, are all links
abbrev pub invariant-loop-declared : goal.invariant-loop-declared
invariant-loop-declared l =
    map link_of l.links.items ++ map (λ p. Some p) (type_names (map declared_type (drop l.declared-index l.declared-items)))
    ≡ map link_of l.initial.links.items ++ map (λ p. Some p) (type_names (map declared_type l.initial.schema.types.declared.items))
