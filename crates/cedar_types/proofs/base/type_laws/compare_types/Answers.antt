use Rattle.std.proofs.Common.{◌∙◌, sym, ap}
use Rattle.std.specs.Ordering.{is_eq}
use Rattle.std.specs.Cmp.{Equal-is}
use Rattle.cedar_types.specs.contracts.base.types.CedarTypeOrd.TheImpl as ord_impl
use Rattle.cedar_types.specs.contracts.base.types.CedarTypeOrd.TheImpl.Laws as ord_laws
use Rattle.cedar_types.specs.Types.{ty_of}
use Rattle.cedar_types.proofs.Comparisons.Types.{types_same}
use Rattle.cedar_types.proofs.Comparisons.SameTypes.{ty_decides}
use Rattle.cedar_types.proofs.Comparisons.TypeOrder.{types_order}
use Rattle.cedar_types.proofs.base.type_laws.compare_types.Goals as goal

pub returns-clause-order : goal.returns-clause-order
returns-clause-order c = c.cmp.ensures ∙ types_order c.args.ty0.now c.args.ty1.now

pub returns-clause-equality : goal.returns-clause-equality
returns-clause-equality c =
    let x = c.args.ty0.now in
    let y = c.args.ty1.now in
    let e = sym (types_same x y) ∙ ord_laws.matches_eq-law x y in
    let d = ty_decides (ty_of x) (ty_of y) in
    (λ h. d.0 (e ∙ ap is_eq (sym c.cmp.ensures ∙ h)), λ h. c.cmp.ensures ∙ (Equal-is (ord_impl.ghosts.cmp x y)).0 (sym e ∙ d.1 h))
