use Rattle.cedar_typechecker.proofs.Validations.{validations_are_kept}
use Rattle.cedar_typechecker.proofs.level_validate.promises.validations_are_kept.Goals as goal

pub returns : goal.returns
returns c = validations_are_kept
