use Rattle.cedar_typechecker.proofs.Slices.TypedCopies.{copies_need_slice_alone}
use Rattle.cedar_typechecker.proofs.level_validate.slices.copies_need_slice_alone.Goals as goal

pub returns : goal.returns
returns c = copies_need_slice_alone
