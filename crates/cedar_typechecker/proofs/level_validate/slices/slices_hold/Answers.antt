use Rattle.cedar_typechecker.proofs.Slices.Stores.{slices_hold}
use Rattle.cedar_typechecker.proofs.level_validate.slices.slices_hold.Goals as goal

pub returns : goal.returns
returns c = slices_hold
