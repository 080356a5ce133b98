use Rattle.std.proofs.Common.{◌∙◌, sym}
use Rattle.cedar_types.specs.contracts.base.errors.validation_errors.ValidationErrorOrd.TheImpl.Laws as ord_laws
use Rattle.cedar_types.specs.Errors.{finding_of}
use Rattle.cedar_types.proofs.Comparisons.Errors.{tie_is}
use Rattle.cedar_types.proofs.Comparisons.ErrorsDecided.{finding_eq-Decides}
use Rattle.cedar_types.proofs.base.laws.order_of_findings.Goals as goal

pub returns-clause-total : goal.returns-clause-total
returns-clause-total c = ord_laws.total-law

pub returns-clause-ties : goal.returns-clause-ties
returns-clause-ties c x y =
    let d = finding_eq-Decides (finding_of x) (finding_of y) in
    (λ h. d.0 (sym (tie_is x y) ∙ h), λ h. tie_is x y ∙ d.1 h)
