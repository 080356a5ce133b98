use Rattle.cedar_examples.proofs.Promises.{evaluation_examples, response_promises, condition_promises, first_unmet_examples}
use Rattle.cedar_examples.proofs.hosts.examples_of_promises.Goals as goal

pub returns : goal.returns
returns c = record {
  evaluation = evaluation_examples;
  responses = response_promises;
  conditions = condition_promises;
  unmet = first_unmet_examples;
}
