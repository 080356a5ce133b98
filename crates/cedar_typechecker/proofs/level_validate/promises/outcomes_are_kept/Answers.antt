use Rattle.cedar_typechecker.proofs.Slices.Validation.{outcomes_are_kept}
use Rattle.cedar_typechecker.proofs.level_validate.promises.outcomes_are_kept.Goals as goal

pub returns : goal.returns
returns c = outcomes_are_kept
