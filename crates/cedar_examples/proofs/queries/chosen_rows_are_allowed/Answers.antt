use Rattle.cedar_examples.proofs.ChosenRows.{query_tells_the_decision, chosen_rows_are_allowed}
use Rattle.cedar_examples.proofs.queries.chosen_rows_are_allowed.Goals as goal

pub returns : goal.returns
returns c = record { decided = query_tells_the_decision; chosen = chosen_rows_are_allowed }
