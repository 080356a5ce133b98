use Rattle.std.proofs.Common.{◌∙◌, ap, sym}
use Rattle.std.specs.List.{list_any}
use Rattle.cedar_types.proofs.Schema.Closures.{asked_for}
use Rattle.cedar_types.proofs.base.schema.closures.has_descendant.Goals as goal

pub returns : goal.returns
returns g c =
    let d = g.D.Declared in
    c.contains.ensures
    ∙ asked_for g.D.Name.Ord.cmp d.key d.same (λ a b. sym (g.met.D.Name.Ord.matches_eq a b) ∙ g.met.D.Declared.equal a b)
    c.args.name.now c.descendants.result.now.keys
    ∙ ap (list_any (d.same (d.key c.args.name.now))) c.descendants.ensures
