use Rattle.std.proofs.Common.{◌≡◌, map, Some}
use Rattle.std.specs.List.{list_all}
use Rattle.cedar_types.specs.Schemas.Closures.{has_all, is_closed, below_name}
use Rattle.cedar_types.proofs.base.schema.closures.are_all_closed.Given as goal

-- The remaining names decide the answer
abbrev pub invariant-loop-name : goal.invariant-loop-name
invariant-loop-name g l =
    let d = g.D.Declared in
    list_all (λ k. has_all d.same (d.below (Some (d.plain l.above)))
    (below_name d.same d.called d.below (map d.plain l.table.declared.items) k)) (map d.key l.name-iterator)
    ≡ is_closed d.same (below_name d.same d.called d.below (map d.plain l.fn.table.declared.items))
    (d.below (Some (d.plain l.fn.above)))
