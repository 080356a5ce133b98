use Rattle.cedar_typechecker.proofs.Levels.Chains.{chains_are_listed, level_is_greatest}
use Rattle.cedar_typechecker.proofs.level_validate.laws.access_chains.Goals as goal

pub returns : goal.returns
returns c = record { listed = chains_are_listed; greatest = level_is_greatest }
