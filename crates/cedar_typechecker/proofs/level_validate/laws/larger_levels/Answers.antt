use Rattle.cedar_typechecker.proofs.Levels.Monotone.{larger_levels_are_within}
use Rattle.cedar_typechecker.proofs.level_validate.laws.larger_levels.Goals as goal

pub returns : goal.returns
returns c = larger_levels_are_within
