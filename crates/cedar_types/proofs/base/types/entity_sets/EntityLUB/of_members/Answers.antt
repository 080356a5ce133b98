use Rattle.std.proofs.Common.{◌∙◌, ap}
use Rattle.cedar_types.specs.Names.Ascending.{has_members, types_ascend}
use Rattle.cedar_types.proofs.Names.Paths.{ascend, names_cmp}
use Rattle.cedar_types.proofs.base.types.entity_sets.EntityLUB.of_members.Goals as goal

pub invariant_of-result : goal.invariant_of-result
invariant_of-result c = record {
  has_members = ap (λ s. has_members s.keys) c.in_ok-new.ensures.ok ∙ c.requires;
  ascends =
      ap (λ s. types_ascend s.keys) c.in_ok-new.ensures.ok
      ∙ ascend _ (λ a b. names_cmp a.name b.name) c.args.types.keys c.len.ensures.ordered;
}
