use Rattle.cedar_typechecker.proofs.Slices.Examples.Needed.{slice_premises_needed}
use Rattle.cedar_typechecker.proofs.level_validate.slice_examples.slice_premises_are_needed.Goals as goal

pub returns : goal.returns
returns c = slice_premises_needed
