use Rattle.std.proofs.Common.{◌≡◌, List, Option, map, refl, sym, subst}
use Rattle.std.proofs.lemmas.Result.{IfOk-weaker}
use Rattle.std.specs.BTreeMap.{values}
use Rattle.std.specs.declared.alloc.Global.{Global}
use Rattle.std.specs.declared.vec.Vec.{Vec}
use Rattle.cedar_types.specs.declared.base.location.Loc.{Loc}
use Rattle.cedar_host.specs.ReportOrder.{AreInOrder}
use Rattle.cedar_host.specs.declared.reports.PolicyWarning.{PolicyWarning}
use Rattle.cedar_host.proofs.ReportOrder.{inserted_placed, in_order_of_keys}
use Rattle.cedar_host.proofs.reports.warnings.Goals as goal

abbrev place : PolicyWarning → Option Loc
place e = e.place

pub loop-warning-preserved : goal.loop-warning-preserved
loop-warning-preserved c = record {
  placed =
      inserted_placed place c.loop-warning.ordered.entries _ _ _ c.in_ok-insert.ensures.entries refl
      c.loop-warning.invariant.placed;
  ordered = c.insert.ensures.ordered;
}

pub loop-warning-preserved-in_ok-insert : goal.loop-warning-preserved-in_ok-insert
loop-warning-preserved-in_ok-insert c = record {
  placed =
      inserted_placed place c.loop-warning.ordered.entries _ _ _ c.in_ok-insert.ensures.entries refl
      c.loop-warning.invariant.placed;
  ordered = c.insert.ensures.ordered;
}

pub loop-warning-preserved-in_ok-insert-2 : goal.loop-warning-preserved-in_ok-insert-2
loop-warning-preserved-in_ok-insert-2 c = record {
  placed =
      inserted_placed place c.loop-warning.ordered.entries _ _ _ c.in_ok-insert.ensures.entries refl
      c.loop-warning.invariant.placed;
  ordered = c.insert.ensures.ordered;
}

pub returns : goal.returns
returns c =
    let at = c.loop-warning in
    let listed = in_order_of_keys place at.ordered.entries at.invariant.placed at.invariant.ordered in
    IfOk-weaker c.in_order.result (λ (all : Vec PolicyWarning Global). all.items ≡ values at.ordered)
    (λ (all : Vec PolicyWarning Global). AreInOrder (map place all.items))
    (λ all h. subst (λ (es : List PolicyWarning). AreInOrder (map place es)) (sym h) listed) c.in_order.ensures
