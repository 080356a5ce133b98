use Rattle.cedar_typing.proofs.TypedCopies.Laws.{checks_mean_the_same}
use Rattle.cedar_typing.proofs.typecheck.typed_copies.checks_mean_the_same.Goals as goal

pub returns : goal.returns
returns c = checks_mean_the_same
