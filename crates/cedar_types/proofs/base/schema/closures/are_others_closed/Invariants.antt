use Rattle.std.proofs.Common.{◌≡◌, ◌||◌, map, Some}
use Rattle.std.specs.List.{list_any, list_all}
use Rattle.cedar_types.specs.Schemas.Closures.{has_all, below_name}
use Rattle.cedar_types.proofs.base.schema.closures.are_others_closed.Given as goal

-- The remaining names decide the answer
abbrev pub invariant-loop-name : goal.invariant-loop-name
invariant-loop-name g l =
    let d = g.D.Declared in
    list_all (λ k. list_any (d.same k) (d.below (Some (d.plain l.widest)))
    || has_all d.same (d.below (Some (d.plain l.above)))
    (below_name d.same d.called d.below (map d.plain l.table.declared.items) k)) (map d.key l.name-iterator)
    ≡ list_all (λ k. list_any (d.same k) (d.below (Some (d.plain l.fn.widest)))
    || has_all d.same (d.below (Some (d.plain l.fn.above)))
    (below_name d.same d.called d.below (map d.plain l.fn.table.declared.items) k))
    (d.below (Some (d.plain l.fn.above)))
