use Rattle.cedar_typechecker.proofs.Levels.Refinement.{strict_levels_are_kept}
use Rattle.cedar_typechecker.proofs.level_validate.laws.strict_levels_are_kept.Goals as goal

pub returns : goal.returns
returns c = strict_levels_are_kept
