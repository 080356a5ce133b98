use Rattle.cedar_typechecker.proofs.Slices.Nesting.{shallow_is_cut_nowhere}
use Rattle.cedar_typechecker.proofs.Slices.Validation.{passing_is_cut_nowhere}
use Rattle.cedar_typechecker.proofs.level_validate.promises.cut_nowhere.Goals as goal

pub returns : goal.returns
returns c = record { passing = passing_is_cut_nowhere; shallow = shallow_is_cut_nowhere }
