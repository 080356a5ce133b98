use Rattle.std.proofs.Common.{◌∙◌, ap, sym, Some}
use Rattle.cedar_types.specs.Schemas.Closures.{has_all}
use Rattle.cedar_types.proofs.base.schema.closures.has_all_below_name.Goals as goal

pub returns-in-Some : goal.returns-in-Some
returns-in-Some g c =
    let d = g.D.Declared in
    c.has_all_below.ensures
    ∙ ap (λ o. has_all d.same (d.below (Some (d.plain c.args.above.now))) (d.below o)) c.in-Some.ensures

pub returns-in-None : goal.returns-in-None
returns-in-None g c =
    let d = g.D.Declared in
    ap (has_all d.same (d.below (Some (d.plain c.args.above.now))))
    (sym g.met.D.Declared.none_below ∙ ap d.below c.in-None.ensures)
