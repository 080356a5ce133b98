use Rattle.std.proofs.Common.{◌≡◌, ◌∷◌, ◌++◌, map}
use Rattle.cedar_types.specs.Names.{type_of}
use Rattle.cedar_types.proofs.Schema.Listings.{others}
use Rattle.cedar_types.proofs.base.schema.ValidatorSchema.get_entity_types_in.Given as goal

-- The listed types, and then the remaining descendants, are all types to list
abbrev pub invariant-loop-descendant : goal.invariant-loop-descendant
invariant-loop-descendant l =
    map (λ t. type_of t.now) l.within.items ++ others (type_of l.entity_type) (map type_of l.descendant-iterator)
    ≡ type_of l.fn.entity_type ∷ others (type_of l.fn.entity_type) (map type_of l.initial.descendant-iterator)
