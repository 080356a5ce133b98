use Rattle.cedar_typechecker.proofs.Slices.Expressions.{targets_are_reached}
use Rattle.cedar_typechecker.proofs.level_validate.slices.targets_are_reached.Goals as goal

pub returns : goal.returns
returns c = targets_are_reached
