use Rattle.std.proofs.Common.{sym, subst}
use Rattle.cedar_types.specs.Templates.{template_of}
use Rattle.cedar_typechecker.specs.Levels.Required.{IsRequiredLevel}
use Rattle.cedar_typechecker.specs.ValidatorViews.{basis_in}
use Rattle.cedar_typechecker.proofs.rbac.validator.Validator.required_level.Goals as goal

pub returns : goal.returns
returns g c =
    let b = basis_in g.C.ArgumentCheck.refusal c.args.self.now c.args.mode in
    let t = template_of c.args.p.now in
    subst (IsRequiredLevel b t) (sym c.required_level.ensures) c.in_ok-survey.ensures.exact.required
