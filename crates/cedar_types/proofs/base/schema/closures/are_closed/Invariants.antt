use Rattle.std.proofs.Common.{◌≡◌, true, take, map, Some}
use Rattle.std.specs.List.{list_all}
use Rattle.cedar_types.specs.Schemas.Closures.{are_kept, below_name}
use Rattle.cedar_types.proofs.base.schema.closures.are_closed.Given as goal

-- The sets so far are kept
abbrev pub invariant-loop-place : goal.invariant-loop-place
invariant-loop-place g l =
    let d = g.D.Declared in
    let declared = map d.plain l.table.declared.items in
    list_all (λ x. are_kept d.same (λ x. d.below (Some x)) (below_name d.same d.called d.below declared) declared
    (d.below (Some x))) (take l.place declared) ≡ true
