-- The cost of a chain of attributes: the number of entities that extended `has` accesses to test
-- it. For example, `principal has user.name` costs 2 if `user` is an entity, and 1 if it is a
-- record.
use Rattle.std.specs.Prelude.{ℕ, ◌+◌, Bool, List, [], ◌∷◌, Option, Some, None, option_map}
use Rattle.cedar_types.specs.Types.Lookups.{attribute_type}
use Rattle.cedar_types.specs.Names.{Text}
use Rattle.cedar_types.specs.Schemas.{Schema}
use Rattle.cedar_types.specs.Types.{Ty, TEntity, TAnyEntity}
use Rattle.cedar_typechecker.specs.Levels.Chains.{Base, an_entity, base_of_type}

-- ---- costs

-- the root counts if it is an entity, of some types or of any
abbrev pub root_cost : Ty → ℕ
root_cost (TEntity ps) = 1
root_cost TAnyEntity = 1
root_cost t = 0

abbrev pub entity_cost : Base → ℕ
entity_cost an_entity = 1
entity_cost b = 0

abbrev pub on_attribute : {A : Type 0} → A → Option (Ty × Bool) → (Ty → A) → A
on_attribute otherwise None f = otherwise
on_attribute otherwise (Some a) f = f a.0

-- an attribute counts if it is an entity of some types and not the last of the chain, because the
-- last attribute is only tested. The chain ends before the first attribute that is not declared
abbrev pub steps_cost : Schema → Ty → Text → List Text → ℕ
steps_cost s t x [] = 0
steps_cost s t x (y ∷ ys) =
    on_attribute 0 (attribute_type s t x)
    (λ u. entity_cost (base_of_type u) + steps_cost s u y ys)

-- the cost of a first attribute and the others, from a value of this type
abbrev pub chain_cost : Schema → Ty → Text → List Text → ℕ
chain_cost s t x xs = root_cost t + steps_cost s t x xs

-- the cost of any attributes. None cost nothing
abbrev pub attributes_cost : Schema → Ty → List Text → ℕ
attributes_cost s t [] = 0
attributes_cost s t (x ∷ xs) = chain_cost s t x xs

-- ---- the first entity

abbrev pub keys_on : Base → Text → Option (List Text) → Option (List Text)
keys_on an_entity x later = Some (x ∷ [])
keys_on b x later = option_map (λ xs. x ∷ xs) later

-- the attributes that lead to the first entity, if one comes before the last attribute
abbrev pub keys_to_entity : Schema → Ty → Text → List Text → Option (List Text)
keys_to_entity s t x [] = None
keys_to_entity s t x (y ∷ ys) =
    on_attribute None (attribute_type s t x)
    (λ u. keys_on (base_of_type u) x (keys_to_entity s u y ys))

-- ---- costs by the type that was found of a base

abbrev pub cost_of : Schema → Option Ty → Text → List Text → ℕ
cost_of s None x xs = 0
cost_of s (Some t) x xs = chain_cost s t x xs

abbrev pub keys_of : Schema → Option Ty → Text → List Text → Option (List Text)
keys_of s None x xs = None
keys_of s (Some t) x xs = keys_to_entity s t x xs
