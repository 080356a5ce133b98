use Rattle.std.proofs.Common.{◌∙◌}
use Rattle.cedar_types.specs.Names.{type_of}
use Rattle.cedar_types.specs.Types.{lub_of}
use Rattle.cedar_types.proofs.Names.Members.{mapped_has}
use Rattle.cedar_types.proofs.base.type_laws.entity_sets_are_well_formed.Goals as goal

pub returns : goal.returns
unfolding lub_of
returns a = record {
  members = λ s. mapped_has type_of s.lub_elements.value.keys ∙ s.has_members;
  ascend = λ s. s.ascends;
}
