use Rattle.cedar_examples.proofs.ArraysAreRead.{arrays_are_read}
use Rattle.cedar_examples.proofs.arrays.arrays_are_read.Goals as goal

pub returns : goal.returns
returns c = arrays_are_read
