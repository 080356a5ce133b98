use Rattle.cedar_typechecker.proofs.Slices.Passing.{passing_is_kept}
use Rattle.cedar_typechecker.proofs.level_validate.promises.passing_is_kept.Goals as goal

pub returns : goal.returns
returns c = passing_is_kept
