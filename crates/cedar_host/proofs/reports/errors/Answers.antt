use Rattle.std.proofs.Common.{◌≡◌, List, Option, map, refl, sym, subst}
use Rattle.std.proofs.lemmas.Result.{IfOk-weaker}
use Rattle.std.specs.BTreeMap.{values}
use Rattle.std.specs.declared.alloc.Global.{Global}
use Rattle.std.specs.declared.vec.Vec.{Vec}
use Rattle.cedar_types.specs.declared.base.location.Loc.{Loc}
use Rattle.cedar_host.specs.ReportOrder.{AreInOrder}
use Rattle.cedar_host.specs.declared.reports.PolicyError.{PolicyError}
use Rattle.cedar_host.proofs.ReportOrder.{inserted_placed, in_order_of_keys}
use Rattle.cedar_host.proofs.reports.errors.Goals as goal

abbrev place : PolicyError → Option Loc
place e = e.place

pub loop-error-preserved : goal.loop-error-preserved
loop-error-preserved c = record {
  placed =
      inserted_placed place c.loop-error.ordered.entries _ _ _ c.in_ok-insert.ensures.entries refl
      c.loop-error.invariant.placed;
  ordered = c.insert.ensures.ordered;
}

pub loop-error-preserved-in_ok-insert : goal.loop-error-preserved-in_ok-insert
loop-error-preserved-in_ok-insert c = record {
  placed =
      inserted_placed place c.loop-error.ordered.entries _ _ _ c.in_ok-insert.ensures.entries refl
      c.loop-error.invariant.placed;
  ordered = c.insert.ensures.ordered;
}

pub returns : goal.returns
returns c =
    let at = c.loop-error in
    let listed = in_order_of_keys place at.ordered.entries at.invariant.placed at.invariant.ordered in
    IfOk-weaker c.in_order.result (λ (all : Vec PolicyError Global). all.items ≡ values at.ordered)
    (λ (all : Vec PolicyError Global). AreInOrder (map place all.items))
    (λ all h. subst (λ (es : List PolicyError). AreInOrder (map place es)) (sym h) listed) c.in_order.ensures
