use Rattle.std.proofs.Common.{refl}
use Rattle.cedar_writing.proofs.examples.examples_of_pieces.Goals as goal

pub returns : goal.returns
returns c = record {
  tokens = refl;
  blanks = refl;
  loose = refl;
  marks = refl;
  split = refl;
  number = refl;
  text = refl;
  comment = refl;
  comments = refl;
  slash = refl;
}
