use Rattle.std.proofs.Common.{◌∙◌, ap, is_some}
use Rattle.cedar_types.proofs.Schema.Places.{any_placed, any_mapped, asked_by_name}
use Rattle.cedar_types.proofs.base.schema.tables.Table.contains.Goals as goal

pub returns : goal.returns
returns g c =
    let key = g.D.Declared.key c.args.name.now in
    let items = c.args.self.now.declared.items in
    c.contains_key.ensures
    ∙ ap is_some
    (asked_by_name g.D.Name.Ord.cmp g.D.Name.PartialEq.eq g.D.Declared.same g.D.Declared.key g.met.D.Name.Ord.matches_eq
    g.met.D.Declared.equal c.args.name.now c.args.self.now.places.entries)
    ∙ ap is_some (c.args.self.now.placed c.args.name.now)
    ∙ any_placed (λ d. g.D.Declared.same key (g.D.Declared.called (g.D.Declared.plain d))) items
    ∙ any_mapped g.D.Declared.plain (λ x. g.D.Declared.same key (g.D.Declared.called x)) items
