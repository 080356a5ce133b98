use Rattle.std.proofs.Common.{◌≡◌}
use Rattle.cedar_types.specs.Types.{entries_of, attributes_of}
use Rattle.cedar_types.specs.Schemas.{are_vague}
use Rattle.cedar_types.proofs.base.schema.type_faults.+vague.Given as goal

-- The remaining attributes decide the answer
abbrev pub invariant-has_vague_attribute-loop-name : goal.invariant-has_vague_attribute-loop-name
invariant-has_vague_attribute-loop-name l = are_vague (entries_of l._name-iterator) ≡ are_vague (attributes_of l.fn.attributes)
