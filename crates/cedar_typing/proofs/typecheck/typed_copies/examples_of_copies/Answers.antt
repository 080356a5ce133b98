use Rattle.cedar_typing.proofs.Examples.CopyPremises.{copy_premises_needed}
use Rattle.cedar_typing.proofs.Examples.TypedCopies.{copy_examples}
use Rattle.cedar_typing.proofs.typecheck.typed_copies.examples_of_copies.Goals as goal

pub returns : goal.returns
returns c = record { copies = copy_examples; premises = copy_premises_needed }
