use Rattle.std.proofs.Common.{◌≡◌, ◌∙◌, ap, Some, None, option_map, arith}
use Rattle.std.specs.List.{slice_get}
use Rattle.cedar_types.specs.Schemas.Tables.Places.{place_in}
use Rattle.cedar_types.proofs.Schema.Places.{item_at, map_twice, mapped_before, mapped_later, mapped_never, asked_by_name}
use Rattle.cedar_types.proofs.base.schema.tables.Table.get_before.Goals as goal
use Rattle.cedar_types.proofs.base.schema.tables.Table.get_before.Goals.{in_default-via-in-Some+else-at-place, in_default-via-in_default}

pub returns-in-Some : goal.returns-in-Some
returns-in-Some g c =
    let key = g.D.Declared.key c.args.name.now in
    let items = c.args.self.now.declared.items in
    let e : Some c.in-Some.at.now
    ≡ place_in (λ d. g.D.Declared.same key (g.D.Declared.called (g.D.Declared.plain d))) items =
    c.in-Some.ensures.value
    ∙ asked_by_name g.D.Name.Ord.cmp g.D.Name.PartialEq.eq g.D.Declared.same g.D.Declared.key g.met.D.Name.Ord.matches_eq
    g.met.D.Declared.equal c.args.name.now c.args.self.now.places.entries
    ∙ c.args.self.now.placed c.args.name.now in
    map_twice (λ d. d.now) g.D.Declared.plain c.get-in-Some.result
    ∙ ap (option_map g.D.Declared.plain)
    (item_at c.deref.result.now c.in-Some.at.now c.get-in-Some.result c.get-in-Some.ensures.lookup
    ∙ ap (λ ds. slice_get ds c.in-Some.at.now) c.deref.ensures.value)
    ∙ mapped_before g.D.Declared.plain (λ x. g.D.Declared.same key (g.D.Declared.called x)) items c.in-Some.at.now
    c.args.place e (omega (arith, c.if-at-place.true))

pub returns-in_default : goal.returns-in_default
returns-in_default g c =
    let key = g.D.Declared.key c.args.name.now in
    let items = c.args.self.now.declared.items in
    let places = asked_by_name g.D.Name.Ord.cmp g.D.Name.PartialEq.eq g.D.Declared.same g.D.Declared.key
    g.met.D.Name.Ord.matches_eq g.met.D.Declared.equal c.args.name.now c.args.self.now.places.entries in
    elim c.in_default.branch [
      | in_default-via-in-Some+else-at-place w ↦
          let e : Some w.in-Some.at.now
          ≡ place_in (λ d. g.D.Declared.same key (g.D.Declared.called (g.D.Declared.plain d))) items =
          w.in-Some.ensures.value ∙ places ∙ c.args.self.now.placed c.args.name.now in
          mapped_later g.D.Declared.plain (λ x. g.D.Declared.same key (g.D.Declared.called x)) items
          w.in-Some.at.now c.args.place e (omega (arith, w.if-at-place.false))
      | in_default-via-in_default w ↦
          let e : None ≡ place_in (λ d. g.D.Declared.same key (g.D.Declared.called (g.D.Declared.plain d))) items =
          w.in_default.ensures.value ∙ places ∙ c.args.self.now.placed c.args.name.now in
          mapped_never g.D.Declared.plain (λ x. g.D.Declared.same key (g.D.Declared.called x)) items c.args.place e
    ]
