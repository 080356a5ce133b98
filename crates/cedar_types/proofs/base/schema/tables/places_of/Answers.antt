use Rattle.std.proofs.Common.{◌≡◌, ◌∙◌, ap, sym, true, false, take, is_some, arith, cond, None, Some, ◌++◌, ◌∷◌, []}
use Rattle.std.specs.List.{list_any}
use Rattle.std.proofs.lemmas.List.{take_more, length-take-le}
use Rattle.cedar_types.specs.Schemas.Tables.Places.{place_of, place_in}
use Rattle.cedar_types.proofs.Schema.Places.{any_placed, repeat_found, repeat_not_found, placed_next, is_none, asked_by_name, decided_symm}
use Rattle.cedar_types.proofs.base.schema.tables.places_of.Goals as goal

pub returns-then-is_some : goal.returns-then-is_some
returns-then-is_some g c =
    let key = g.D.Declared.key c.in_ok-name.name in
    let before = take c.loop-place.place c.args.declared.now in
    let declaration = c.index-declared-place.result in
    let is_old : is_some c.in_ok-insert.field-0 ≡ true = sym c.is_some.ensures ∙ c.if-is_some.true in
    let among : list_any (λ d. g.D.Declared.same (g.D.Declared.called (g.D.Declared.plain declaration))
    (g.D.Declared.called (g.D.Declared.plain d))) before ≡ true =
    ap (λ k. list_any (λ d. g.D.Declared.same k (g.D.Declared.called (g.D.Declared.plain d))) before) (sym c.in_ok-name.ensures)
    ∙ sym (any_placed (λ d. g.D.Declared.same key (g.D.Declared.called (g.D.Declared.plain d))) before)
    ∙ ap is_some
    (sym (c.in_ok-insert.ensures.old
    ∙ asked_by_name g.D.Name.Ord.cmp g.D.Name.PartialEq.eq g.D.Declared.same g.D.Declared.key g.met.D.Name.Ord.matches_eq
    g.met.D.Declared.equal c.in_ok-name.name c.loop-place.places.entries
    ∙ c.loop-place.invariant.placed c.in_ok-name.name))
    ∙ is_old in
    repeat_found g.D.Declared.plain (λ x y. g.D.Declared.same (g.D.Declared.called x) (g.D.Declared.called y))
    (λ x y. decided_symm g.D.Declared.same g.met.D.Declared.decides (g.D.Declared.called x) (g.D.Declared.called y))
    c.args.declared.now c.loop-place.place declaration c.loop-place-test.true c.index-declared-place.is among

pub loop-place-preserved : goal.loop-place-preserved
loop-place-preserved g c =
    let key = g.D.Declared.key c.in_ok-name.name in
    let before = take c.loop-place.place c.args.declared.now in
    let declaration = c.index-declared-place.result in
    let named : key ≡ g.D.Declared.called (g.D.Declared.plain declaration) = c.in_ok-name.ensures in
    let old : place_of g.D.Declared.same g.D.Declared.key c.loop-place.places.entries key ≡ None =
    sym (c.in_ok-insert.ensures.old
    ∙ asked_by_name g.D.Name.Ord.cmp g.D.Name.PartialEq.eq g.D.Declared.same g.D.Declared.key g.met.D.Name.Ord.matches_eq
    g.met.D.Declared.equal c.in_ok-name.name c.loop-place.places.entries)
    ∙ is_none c.in_ok-insert.field-0 (sym c.is_some.ensures ∙ c.if-is_some.false) in
    let not_among : list_any (λ d. g.D.Declared.same (g.D.Declared.called (g.D.Declared.plain declaration))
    (g.D.Declared.called (g.D.Declared.plain d))) before ≡ false =
    ap (λ k. list_any (λ d. g.D.Declared.same k (g.D.Declared.called (g.D.Declared.plain d))) before) (sym named)
    ∙ sym (any_placed (λ d. g.D.Declared.same key (g.D.Declared.called (g.D.Declared.plain d))) before)
    ∙ ap is_some (sym (c.loop-place.invariant.placed c.in_ok-name.name) ∙ old) in
    record {
      placed = λ q.
          placed_next g.D.Declared.same (λ d. g.D.Declared.called (g.D.Declared.plain d)) (g.D.Declared.key q) key before
          declaration c.loop-place.place (place_of g.D.Declared.same g.D.Declared.key c.loop-place.places.entries (g.D.Declared.key q))
          (place_of g.D.Declared.same g.D.Declared.key c.insert.new.self.entries (g.D.Declared.key q)) g.met.D.Declared.decides named
          (sym (asked_by_name g.D.Name.Ord.cmp g.D.Name.PartialEq.eq g.D.Declared.same g.D.Declared.key
          g.met.D.Name.Ord.matches_eq g.met.D.Declared.equal q c.insert.new.self.entries)
          ∙ c.in_ok-insert.ensures.updates.0 q
          ∙ (λ j. cond
          ((sym (g.met.D.Name.Ord.matches_eq c.in_ok-name.name q) ∙ g.met.D.Declared.equal c.in_ok-name.name q) j)
          (Some c.loop-place.place)
          (asked_by_name g.D.Name.Ord.cmp g.D.Name.PartialEq.eq g.D.Declared.same g.D.Declared.key
          g.met.D.Name.Ord.matches_eq g.met.D.Declared.equal q c.loop-place.places.entries j)))
          (c.loop-place.invariant.placed q)
          (λ h. ap (place_of g.D.Declared.same g.D.Declared.key c.loop-place.places.entries)
          (sym ((g.met.D.Declared.decides key (g.D.Declared.key q)).0 h)) ∙ old)
          (sym (length-take-le c.loop-place.place c.args.declared.now (omega arith)))
          ∙ ap (place_in (λ d. g.D.Declared.same (g.D.Declared.key q) (g.D.Declared.called (g.D.Declared.plain d))))
          (ap (λ d. before ++ d ∷ []) c.index-declared-place.is
          ∙ sym (take_more c.args.declared.now c.loop-place.place declaration c.loop-place-test.true));
      apart =
          repeat_not_found g.D.Declared.plain (λ x y. g.D.Declared.same (g.D.Declared.called x) (g.D.Declared.called y))
          (λ x y. decided_symm g.D.Declared.same g.met.D.Declared.decides (g.D.Declared.called x) (g.D.Declared.called y))
          c.args.declared.now c.loop-place.place declaration c.loop-place-test.true c.index-declared-place.is not_among
          c.loop-place.invariant.apart;
    }
