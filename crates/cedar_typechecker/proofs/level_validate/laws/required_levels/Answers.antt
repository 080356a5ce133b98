use Rattle.cedar_typechecker.proofs.Levels.RequiredLevels.{within_where_reached, silent_where_reached, required_level_is_one}
use Rattle.cedar_typechecker.proofs.level_validate.laws.required_levels.Goals as goal

pub returns : goal.returns
returns c = record {
  within = within_where_reached;
  silent = silent_where_reached;
  one = required_level_is_one;
}
