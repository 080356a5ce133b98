use Rattle.cedar_typechecker.proofs.Slices.Examples.Promises.{slice_promises_can_break}
use Rattle.cedar_typechecker.proofs.level_validate.slice_examples.slice_promises_can_break.Goals as goal

pub returns : goal.returns
returns c = slice_promises_can_break
