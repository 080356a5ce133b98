use Rattle.std.proofs.Common.{◌∙◌, sym}
use Rattle.cedar_types.specs.Types.{ty_of}
use Rattle.cedar_types.proofs.Comparisons.Types.{types_same}
use Rattle.cedar_types.proofs.Comparisons.SameTypes.{ty_decides}
use Rattle.cedar_types.proofs.base.type_laws.equal_types.Goals as goal

pub returns : goal.returns
returns c =
    let e = c.eq.ensures ∙ types_same c.args.ty0.now c.args.ty1.now in
    let d = ty_decides (ty_of c.args.ty0.now) (ty_of c.args.ty1.now) in
    (λ h. d.0 (sym e ∙ h), λ h. e ∙ d.1 h)
