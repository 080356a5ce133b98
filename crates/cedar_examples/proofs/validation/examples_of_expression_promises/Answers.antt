use Rattle.cedar_examples.proofs.ExpressionPromises.{success_examples, failure_examples, answer_examples}
use Rattle.cedar_examples.proofs.validation.examples_of_expression_promises.Goals as goal

pub returns : goal.returns
returns c = record { success = success_examples; failure = failure_examples; answer = answer_examples }
