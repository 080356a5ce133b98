use Rattle.std.proofs.Common.{◌≡◌, ◌∙◌, ap, sym, Some, None, option_map}
use Rattle.std.specs.List.{slice_get}
use Rattle.cedar_types.specs.Schemas.Tables.Places.{place_in}
use Rattle.cedar_types.proofs.Schema.Places.{found_at, found_nowhere, find_mapped, item_at, map_twice, asked_by_name}
use Rattle.cedar_types.proofs.base.schema.tables.Table.get.Goals as goal

pub returns-in-Some : goal.returns-in-Some
returns-in-Some g c =
    let key = g.D.Declared.key c.args.name.now in
    let items = c.args.self.now.declared.items in
    let e : Some c.in-Some.place.now
    ≡ place_in (λ d. g.D.Declared.same key (g.D.Declared.called (g.D.Declared.plain d))) items =
    c.in-Some.ensures.value
    ∙ asked_by_name g.D.Name.Ord.cmp g.D.Name.PartialEq.eq g.D.Declared.same g.D.Declared.key g.met.D.Name.Ord.matches_eq
    g.met.D.Declared.equal c.args.name.now c.args.self.now.places.entries
    ∙ c.args.self.now.placed c.args.name.now in
    map_twice (λ d. d.now) g.D.Declared.plain c.get-in-Some.result
    ∙ ap (option_map g.D.Declared.plain)
    (item_at c.deref.result.now c.in-Some.place.now c.get-in-Some.result c.get-in-Some.ensures.lookup
    ∙ ap (λ ds. slice_get ds c.in-Some.place.now) c.deref.ensures.value
    ∙ sym (found_at (λ d. g.D.Declared.same key (g.D.Declared.called (g.D.Declared.plain d))) items
    c.in-Some.place.now (sym e)))
    ∙ find_mapped g.D.Declared.plain (λ x. g.D.Declared.same key (g.D.Declared.called x)) items

pub returns-in-None : goal.returns-in-None
returns-in-None g c =
    let key = g.D.Declared.key c.args.name.now in
    let items = c.args.self.now.declared.items in
    let e : None ≡ place_in (λ d. g.D.Declared.same key (g.D.Declared.called (g.D.Declared.plain d))) items =
    c.in-None.ensures.value
    ∙ asked_by_name g.D.Name.Ord.cmp g.D.Name.PartialEq.eq g.D.Declared.same g.D.Declared.key g.met.D.Name.Ord.matches_eq
    g.met.D.Declared.equal c.args.name.now c.args.self.now.places.entries
    ∙ c.args.self.now.placed c.args.name.now in
    ap (option_map g.D.Declared.plain)
    (sym (found_nowhere (λ d. g.D.Declared.same key (g.D.Declared.called (g.D.Declared.plain d))) items (sym e)))
    ∙ find_mapped g.D.Declared.plain (λ x. g.D.Declared.same key (g.D.Declared.called x)) items
