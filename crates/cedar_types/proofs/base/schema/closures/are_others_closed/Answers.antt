use Rattle.std.proofs.Common.{◌∙◌, ◌||◌, ap, map, Some}
use Rattle.std.specs.List.{list_any, list_all}
use Rattle.cedar_types.specs.Schemas.Closures.{has_all, below_name}
use Rattle.cedar_types.proofs.base.schema.closures.are_others_closed.Goals as goal

pub loop-name-init : goal.loop-name-init
loop-name-init g c =
    let d = g.D.Declared in
    let all = d.below (Some (d.plain c.args.above.now)) in
    let widest = d.below (Some (d.plain c.args.widest.now)) in
    let of = below_name d.same d.called d.below (map d.plain c.args.table.now.declared.items) in
    ap (λ ks. list_all (λ k. list_any (d.same k) widest || has_all d.same all (of k)) (map d.key ks))
    (c.into_iter-name-iterator.ensures.into_iter_gives ∙ c.iter-name-items.ensures.rest)
    ∙ ap (list_all (λ k. list_any (d.same k) widest || has_all d.same all (of k))) c.descendants-names.ensures
