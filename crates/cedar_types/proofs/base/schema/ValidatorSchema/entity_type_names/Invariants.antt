use Rattle.std.proofs.Common.{◌≡◌, take, map}
use Rattle.cedar_types.specs.Names.{type_of}
use Rattle.cedar_types.specs.Schemas.Declarations.{declared_type}
use Rattle.cedar_types.proofs.base.schema.ValidatorSchema.entity_type_names.Given as goal

-- The listed names are those of the types so far
abbrev pub invariant-loop-entity_type : goal.invariant-loop-entity_type
invariant-loop-entity_type l =
    map (λ t. type_of t.now) l.listed.items
    ≡ map (λ t. t.name) (map declared_type (take l.entity_type-index l.entity_type-items))
