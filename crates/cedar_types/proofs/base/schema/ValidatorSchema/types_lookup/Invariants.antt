use Rattle.std.proofs.Common.{◌≡◌, map, option_map, fold}
use Rattle.cedar_types.specs.Names.{text_of, type_of}
use Rattle.cedar_types.specs.Types.{lub_of}
use Rattle.cedar_types.specs.Types.Lookups.{attribute_view, declared_attribute, joined_attribute, types_attribute}
use Rattle.cedar_types.specs.Schemas.Contents.{schema_of}
use Rattle.cedar_types.proofs.base.schema.ValidatorSchema.types_lookup.Given as goal

-- The attribute so far, joined with the declarations of the remaining types, is the answer
abbrev pub invariant-loop-entity_type : goal.invariant-loop-entity_type
invariant-loop-entity_type l =
    fold (λ found q. joined_attribute found (declared_attribute (schema_of l.self).types (text_of l.attr) q))
    (option_map attribute_view l.found) (map type_of l.entity_type-iterator)
    ≡ types_attribute (schema_of l.fn.self).types (text_of l.fn.attr) (lub_of l.fn.lub)
