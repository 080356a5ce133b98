use Rattle.std.proofs.Common.{◌≡◌}
use Rattle.cedar_types.specs.Types.{entries_of, attributes_of}
use Rattle.cedar_types.specs.Schemas.Tables.{types_in}
use Rattle.cedar_types.specs.Schemas.{attr_names_pass, knows_type}
use Rattle.cedar_types.proofs.base.schema.type_faults.+names.Given as goal

-- The remaining attributes decide the answer
abbrev pub invariant-attribute_names_known-loop-name : goal.invariant-attribute_names_known-loop-name
invariant-attribute_names_known-loop-name l =
    attr_names_pass (knows_type (types_in l.types)) (entries_of l._name-iterator)
    ≡ attr_names_pass (knows_type (types_in l.fn.types)) (attributes_of l.fn.attributes)
