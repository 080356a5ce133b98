use Rattle.std.proofs.Common.{◌∙◌, ap, sym}
use Rattle.cedar_types.specs.Names.{type_of}
use Rattle.cedar_types.specs.Types.{types_of}
use Rattle.cedar_types.specs.Names.Ascending.{has_members}
use Rattle.cedar_types.proofs.Names.Members.{union_has, mapped_has}
use Rattle.cedar_types.proofs.base.types.entity_sets.EntityLUB.least_upper_bound.Goals as goal

pub of_members-requires : goal.of_members-requires
of_members-requires c =
    let mine = ap (λ s. has_members s.keys) c.deref.ensures ∙ c.args.self.now.has_members in
    sym (mapped_has type_of c.in_ok-all.all.keys)
    ∙ ap has_members c.in_ok-all.ensures
    ∙ union_has (types_of c.deref.result.now) (types_of c.deref-2.result.now) (mapped_has type_of c.deref.result.now.keys ∙ mine)
