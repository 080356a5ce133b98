use Rattle.cedar_typechecker.proofs.Slices.Expressions.{slice_soundness}
use Rattle.cedar_typechecker.proofs.level_validate.slices.slice_soundness.Goals as goal

pub returns : goal.returns
returns c = slice_soundness
