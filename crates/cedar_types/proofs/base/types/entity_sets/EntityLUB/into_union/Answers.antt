use Rattle.std.proofs.Common.{◌≡◌, ◌∙◌, ap, sym}
use Rattle.cedar_types.specs.Types.{types_of, lub_of}
use Rattle.cedar_types.specs.Types.Bounds.{union}
use Rattle.cedar_types.specs.Names.{type_of}
use Rattle.cedar_types.specs.Names.Ascending.{has_members}
use Rattle.cedar_types.proofs.Names.Members.{union_has, mapped_has}
use Rattle.cedar_types.proofs.Names.Paths.{owned_types}
use Rattle.cedar_types.proofs.base.types.entity_sets.EntityLUB.into_union.Goals as goal

pub of_members-requires : goal.of_members-requires
of_members-requires c =
    let set = c.args.self.lub_elements.value in
    let mine : types_of c.in_ok-mine.mine ≡ types_of set = owned_types set c.in_ok-mine.mine c.in_ok-mine.ensures.ok in
    sym (mapped_has type_of c.in_ok-all.all.keys)
    ∙ ap has_members (c.in_ok-all.ensures ∙ ap (λ ks. union ks (types_of c.deref.result.now)) mine)
    ∙ union_has (types_of set) (types_of c.deref.result.now) (mapped_has type_of set.keys ∙ c.args.self.has_members)

pub returns : goal.returns
unfolding lub_of
returns c =
    let set = c.args.self.lub_elements.value in
    let mine : types_of c.in_ok-mine.mine ≡ types_of set = owned_types set c.in_ok-mine.mine c.in_ok-mine.ensures.ok in
    c.in_ok-united.ensures ∙ c.in_ok-all.ensures
    ∙ (λ i. union (mine i) (types_of (c.deref.ensures i)))
