use Rattle.cedar_typing.proofs.Examples.Refinement.{form_is_needed_in_strict}
use Rattle.cedar_typing.proofs.typecheck.refinement.examples_of_refinement.Goals as goal

pub returns : goal.returns
returns c = form_is_needed_in_strict
