use Rattle.cedar_typechecker.proofs.Slices.Passing.{required_level_suffices}
use Rattle.cedar_typechecker.proofs.level_validate.promises.required_level_suffices.Goals as goal

pub returns : goal.returns
returns c = required_level_suffices
