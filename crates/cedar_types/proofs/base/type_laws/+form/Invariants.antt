use Rattle.std.proofs.Common.{◌≡◌}
use Rattle.cedar_types.specs.Types.{attributes_of, entries_of, are_well_formed}
use Rattle.cedar_types.proofs.base.type_laws.+form.Given as goal

-- The remaining attributes are well-formed exactly if all are
abbrev pub invariant-attributes_are_well_formed-loop-attribute : goal.invariant-attributes_are_well_formed-loop-attribute
invariant-attributes_are_well_formed-loop-attribute l =
    are_well_formed (attributes_of l.fn.attributes) ≡ are_well_formed (entries_of l.attribute-iterator)
