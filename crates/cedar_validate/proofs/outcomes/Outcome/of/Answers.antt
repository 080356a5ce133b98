use Rattle.std.proofs.Common.{◌∙◌, sym}
use Rattle.cedar_validate.proofs.Statuses.{none_refused}
use Rattle.cedar_validate.proofs.outcomes.Outcome.of.Goals as goal

pub returns-clause-accepted : goal.returns-clause-accepted
returns-clause-accepted c = λ is. none_refused c.args.arguments.now c.args.output.now (sym c.by_counts.ensures ∙ is)
