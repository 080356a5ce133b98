use Rattle.std.proofs.Common.{◌∙◌, ap, sym, map, []}
use Rattle.std.proofs.lemmas.List.{nil_from_length}
use Rattle.cedar_types.specs.Types.{ty_of}
use Rattle.cedar_types.specs.Types.Order.{insert_tys}
use Rattle.cedar_types.proofs.Comparisons.TypeOrder.{type_inserted}
use Rattle.cedar_types.proofs.base.types.type_sets.types_in_order.Goals as goal

pub loop-shown-init : goal.loop-shown-init
loop-shown-init c =
    ap (λ ks. insert_tys (map ty_of ks) (map ty_of c.into_iter-shown-iterator.result.rest.items)) c.new-all.ensures.empty
    ∙ ap (λ ts. insert_tys [] (map ty_of ts)) c.into_iter-shown-iterator.ensures.into_iter_gives.0

pub loop-shown-preserved : goal.loop-shown-preserved
loop-shown-preserved c =
    let rest = map ty_of c.next.new.self.rest.items in
    ap (λ ks. insert_tys (map ty_of ks) rest) c.in_ok-insert.ensures.keys
    ∙ ap (λ ts. insert_tys ts rest) (type_inserted c.loop-shown.all.keys c.in-Some.shown)
    ∙ ap (λ ts. insert_tys (map ty_of c.loop-shown.all.keys) (map ty_of ts)) (sym c.in-Some.ensures.steps.0)
    ∙ c.loop-shown.invariant

pub returns : goal.returns
returns c =
    let none_left = nil_from_length c.loop-shown.shown-iterator.rest.items
    (sym c.loop-shown.shown-iterator.rest.ok.0 ∙ c.in-None.ensures.steps.0) in
    ap (λ ts. insert_tys (map ty_of c.loop-shown.all.keys) (map ty_of ts)) (sym none_left) ∙ c.loop-shown.invariant
