use Rattle.std.proofs.Common.{◌∙◌, sym}
use Rattle.cedar_types.specs.Schemas.Closures.{has_all}
use Rattle.cedar_types.proofs.Schema.Closures.{subset_is}
use Rattle.cedar_types.proofs.base.schema.closures.has_all_below.Goals as goal

pub returns : goal.returns
returns g c =
    let d = g.D.Declared in
    subset_is g.D.Name.Ord.cmp d.key d.same g.met.D.Declared.decides
    (λ a b. sym (g.met.D.Name.Ord.matches_eq a b) ∙ g.met.D.Declared.equal a b)
    c.descendants-others.result.now.keys c.descendants.result.now.keys c.is_subset.result c.is_subset.ensures
    ∙ λ i. has_all d.same (c.descendants.ensures i) (c.descendants-others.ensures i)
