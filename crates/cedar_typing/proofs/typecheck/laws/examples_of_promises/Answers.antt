use Rattle.cedar_typing.proofs.Examples.Promises.{promise_examples, promises_can_break}
use Rattle.cedar_typing.proofs.typecheck.laws.examples_of_promises.Goals as goal

pub returns : goal.returns
returns c = record { outcomes = promise_examples; policies = promises_can_break }
