use Rattle.std.proofs.Common.{◌≡◌, ◌∙◌, refl, ap, sym, ◌≤◌, Bool, true, false, length, get_or, take, take_all, map, Some, arith}
use Rattle.std.specs.List.{list_all}
use Rattle.std.proofs.lemmas.List.{length-map}
use Rattle.std.proofs.lemmas.List.Folds.{list_all-map, list_all_at}
use Rattle.cedar_types.specs.Schemas.Closures.{is_closed, are_kept, below_name}
use Rattle.cedar_types.proofs.Schema.Closures.{kept_closed, earlier_kept, all_next}
use Rattle.cedar_types.proofs.base.schema.closures.are_closed.Goals as goal
use Rattle.cedar_types.proofs.base.schema.closures.are_closed.Goals.{else-not-has_earlier-via-then-not-has_earlier+else-not-is_kept, else-not-has_earlier-via-else-not-has_earlier}

not_so : (a b : Bool) → (a ≡ true → b ≡ true) → b ≡ false → a ≡ false
not_so true b h k = sym (h refl) ∙ k
not_so false b h k = refl

pub returns-then-not-is_kept : goal.returns-then-not-is_kept
returns-then-not-is_kept g c =
    let d = g.D.Declared in
    let items = c.args.table.now.declared.items in
    let of = below_name d.same d.called d.below (map d.plain items) in
    let item = c.declaration-item.result in
    sym (list_all-map (λ x. is_closed d.same of (d.below (Some x))) d.plain items
    ∙ list_all_at (λ t. is_closed d.same of (d.below (Some (d.plain t)))) items c.loop-place.place item
    (omega (arith, c.loop-place-test.true, ap length c.deref-declaration-items.ensures.value))
    (ap (λ t. is_closed d.same of (d.below (Some (d.plain t))))
    (sym (c.declaration-item.is ∙ ap (λ xs. get_or xs c.loop-place.place item) c.deref-declaration-items.ensures.value))
    ∙ not_so (is_closed d.same of (d.below (Some (d.plain item)))) c.is_kept.result c.is_kept.ensures.closed
    c.if-not-is_kept.true))

pub returns : goal.returns
returns g c =
    let d = g.D.Declared in
    let items = c.args.table.now.declared.items in
    let declared = map d.plain items in
    let of = below_name d.same d.called d.below declared in
    let far : length declared ≤ c.loop-place.place =
    omega (arith, c.loop-place-test.false, ap length c.deref-declaration-items.ensures.value, length-map items d.plain) in
    let kept : list_all (λ x. are_kept d.same (λ x. d.below (Some x)) of declared (d.below (Some x))) declared ≡ true =
    ap (list_all (λ x. are_kept d.same (λ x. d.below (Some x)) of declared (d.below (Some x))))
    (sym (take_all c.loop-place.place declared far))
    ∙ c.loop-place.invariant in
    sym (kept_closed d.same g.met.D.Declared.decides (λ x. d.below (Some x)) of declared kept)

pub loop-place-preserved : goal.loop-place-preserved
loop-place-preserved g c =
    let d = g.D.Declared in
    let items = c.args.table.now.declared.items in
    let declared = map d.plain items in
    let of = below_name d.same d.called d.below declared in
    let item = c.declaration-item.result in
    let here : are_kept d.same (λ x. d.below (Some x)) of declared (d.below (Some (d.plain item))) ≡ true =
    elim c.else-not-has_earlier.branch [
      | else-not-has_earlier-via-then-not-has_earlier+else-not-is_kept w ↦
          w.is_kept.ensures.kept w.if-not-is_kept.false
      | else-not-has_earlier-via-else-not-has_earlier w ↦
          earlier_kept d.same g.met.D.Declared.decides (λ x. d.below (Some x)) of declared
          (take c.loop-place.place declared) (d.below (Some (d.plain item))) c.loop-place.invariant
          (c.has_earlier.ensures w.if-not-has_earlier.false)
    ] in
    all_next d.plain (λ x. are_kept d.same (λ x. d.below (Some x)) of declared (d.below (Some x))) items
    c.loop-place.place item
    (omega (arith, c.loop-place-test.true, ap length c.deref-declaration-items.ensures.value))
    (c.declaration-item.is ∙ ap (λ xs. get_or xs c.loop-place.place item) c.deref-declaration-items.ensures.value)
    c.loop-place.invariant here
