use Rattle.cedar_typechecker.proofs.Levels.Walk.{walk_finds_errors, silent_walk_is_within}
use Rattle.cedar_typechecker.proofs.level_validate.laws.walk_finds_errors.Goals as goal

pub returns : goal.returns
returns c = record { errors = walk_finds_errors; silent = silent_walk_is_within }
