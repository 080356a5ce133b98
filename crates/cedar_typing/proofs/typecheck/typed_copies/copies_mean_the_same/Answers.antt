use Rattle.cedar_typing.proofs.TypedCopies.Laws.{types_do_not_matter, copies_mean_the_same}
use Rattle.cedar_typing.proofs.typecheck.typed_copies.copies_mean_the_same.Goals as goal

pub returns : goal.returns
returns c = record { types = types_do_not_matter; same = copies_mean_the_same }
