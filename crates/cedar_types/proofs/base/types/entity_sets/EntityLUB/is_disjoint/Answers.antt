use Rattle.std.proofs.Common.{ap, ◌∙◌, not}
use Rattle.std.specs.List.{list_any}
use Rattle.cedar_types.specs.Names.{type_of, path_eq}
use Rattle.cedar_types.specs.Types.{lub_of}
use Rattle.cedar_types.proofs.Names.Paths.{any_mapped}
use Rattle.cedar_types.proofs.base.types.entity_sets.EntityLUB.is_disjoint.Goals as goal

pub returns : goal.returns
unfolding lub_of
returns c =
    let ps = lub_of c.args.other.now in
    ap not (c.shares.ensures ∙ ap (λ s. list_any (λ k. list_any (path_eq (type_of k)) ps) s.keys) c.deref.ensures
    ∙ any_mapped type_of (λ p. list_any (path_eq p) ps) c.args.self.now.lub_elements.value.keys)
