use Rattle.cedar_typing.proofs.TypedCopies.Policies.{conditions_mean_the_same}
use Rattle.cedar_typing.proofs.typecheck.typed_copies.conditions_mean_the_same.Goals as goal

pub returns : goal.returns
returns c = conditions_mean_the_same
