use Rattle.std.proofs.Common.{◌∙◌, sym}
use Rattle.cedar_types.specs.Errors.{finding_of}
use Rattle.cedar_types.proofs.Comparisons.ErrorsDecided.{finding_eq-Decides}
use Rattle.cedar_types.proofs.Comparisons.Errors.{error_is}
use Rattle.cedar_types.proofs.base.errors.validation_errors.ValidationError.is_same_finding.Goals as goal

pub returns : goal.returns
returns c =
    let e = c.eq.ensures ∙ error_is c.args.self.now c.args.other.now in
    let d = finding_eq-Decides (finding_of c.args.self.now) (finding_of c.args.other.now) in
    (λ h. d.0 (sym e ∙ h), λ h. e ∙ d.1 h)
