use Rattle.std.proofs.Common.{◌≡◌, map, drop}
use Rattle.std.specs.List.{list_all}
use Rattle.cedar_types.specs.Schemas.Declarations.{declared_type}
use Rattle.cedar_types.specs.Schemas.Formed.{kind_is_formed}
use Rattle.cedar_types.specs.Schemas.{DeclaredType}
use Rattle.cedar_types.proofs.base.schema.forms.types_are_formed.Given as goal

-- The remaining types decide the answer
abbrev pub invariant-loop-entity_type : goal.invariant-loop-entity_type
invariant-loop-entity_type l =
    list_all (λ (t : DeclaredType). kind_is_formed t.kind) (map declared_type (drop l.entity_type-index l.types))
    ≡ list_all (λ (t : DeclaredType). kind_is_formed t.kind) (map declared_type l.fn.types)
