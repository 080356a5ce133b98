use Rattle.cedar_typechecker.proofs.Slices.Examples.LeftOpen.{slice_premises_leave_open}
use Rattle.cedar_typechecker.proofs.Slices.Examples.Premises.{slice_premises, slices_as_said}
use Rattle.cedar_typechecker.proofs.level_validate.slice_examples.slice_premises_are_met.Goals as goal

pub returns : goal.returns
returns c = record {
  premises = slice_premises;
  left_open = slice_premises_leave_open;
  slices = slices_as_said;
}
