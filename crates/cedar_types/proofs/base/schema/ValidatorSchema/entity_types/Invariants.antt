use Rattle.std.proofs.Common.{◌≡◌, take, map}
use Rattle.cedar_types.specs.Schemas.Declarations.{declared_type}
use Rattle.cedar_types.proofs.base.schema.ValidatorSchema.entity_types.Given as goal

-- The listed types are those so far
abbrev pub invariant-loop-entity_type : goal.invariant-loop-entity_type
invariant-loop-entity_type l =
    map (λ t. declared_type t.now) l.listed.items ≡ map declared_type (take l.entity_type-index l.entity_type-items)
