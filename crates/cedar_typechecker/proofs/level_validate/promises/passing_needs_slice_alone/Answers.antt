use Rattle.cedar_typechecker.proofs.Slices.Policies.{passing_needs_slice_alone}
use Rattle.cedar_typechecker.proofs.level_validate.promises.passing_needs_slice_alone.Goals as goal

pub returns : goal.returns
returns c = passing_needs_slice_alone
