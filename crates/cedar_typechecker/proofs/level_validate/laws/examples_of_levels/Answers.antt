use Rattle.cedar_typechecker.proofs.Levels.Examples.{level_rows, level_details}
use Rattle.cedar_typechecker.proofs.level_validate.laws.examples_of_levels.Goals as goal

pub returns : goal.returns
returns c = record { rows = level_rows; details = level_details }
