use Rattle.std.proofs.Common.{◌∙◌, ◌||◌, ap, sym, map, Some}
use Rattle.std.specs.List.{list_any, list_all}
use Rattle.cedar_types.specs.Schemas.Closures.{has_all, below_name}
use Rattle.cedar_types.proofs.Tests.{and_left, and_right, and_both}
use Rattle.cedar_types.proofs.Schema.Closures.{found_within, widest_kept, closed_widest, closed_kept}
use Rattle.cedar_types.proofs.base.schema.closures.is_kept.Goals as goal

pub returns-then-has_all_below-clause-kept : goal.returns-then-has_all_below-clause-kept
returns-then-has_all_below-clause-kept g c = λ h.
    let d = g.D.Declared in
    let declared = map d.plain c.args.table.now.declared.items in
    let widest = d.plain c.in-Some.widest.now in
    widest_kept d.same g.met.D.Declared.decides (λ x. d.below (Some x)) (below_name d.same d.called d.below declared)
    declared (d.below (Some (d.plain c.args.above.now))) widest
    (found_within (λ x. d.same (d.called widest) (d.called x)) declared widest c.in-Some.ensures.declared)
    c.in-Some.ensures.fewer
    (and_both _ _ (sym c.has_all_below.ensures ∙ c.if-has_all_below.true) (sym c.are_others_closed.ensures ∙ h))

pub returns-then-has_all_below-clause-closed : goal.returns-then-has_all_below-clause-closed
returns-then-has_all_below-clause-closed g c = λ h.
    let d = g.D.Declared in
    let declared = map d.plain c.args.table.now.declared.items in
    let all = d.below (Some (d.plain c.args.above.now)) in
    let widest = d.plain c.in-Some.widest.now in
    let of = below_name d.same d.called d.below declared in
    c.are_others_closed.ensures
    ∙ and_right (has_all d.same all (d.below (Some widest)))
    (list_all (λ b. list_any (d.same b) (d.below (Some widest)) || has_all d.same all (of b)) all)
    (closed_widest d.same g.met.D.Declared.decides (λ x. d.below (Some x)) of declared all widest (d.called widest)
    (ap d.below c.in-Some.ensures.declared) c.in-Some.ensures.among h)

pub returns-else-has_all_below-clause-closed : goal.returns-else-has_all_below-clause-closed
returns-else-has_all_below-clause-closed g c = λ h.
    let d = g.D.Declared in
    let declared = map d.plain c.args.table.now.declared.items in
    let all = d.below (Some (d.plain c.args.above.now)) in
    let widest = d.plain c.in-Some.widest.now in
    let of = below_name d.same d.called d.below declared in
    c.has_all_below.ensures
    ∙ and_left (has_all d.same all (d.below (Some widest)))
    (list_all (λ b. list_any (d.same b) (d.below (Some widest)) || has_all d.same all (of b)) all)
    (closed_widest d.same g.met.D.Declared.decides (λ x. d.below (Some x)) of declared all widest (d.called widest)
    (ap d.below c.in-Some.ensures.declared) c.in-Some.ensures.among h)

pub returns-in-None-clause-kept : goal.returns-in-None-clause-kept
returns-in-None-clause-kept g c = λ h.
    let d = g.D.Declared in
    let declared = map d.plain c.args.table.now.declared.items in
    closed_kept d.same g.met.D.Declared.decides (λ x. d.below (Some x))
    (below_name d.same d.called d.below declared) declared (d.below (Some (d.plain c.args.above.now)))
    (sym c.are_all_closed.ensures ∙ h)
