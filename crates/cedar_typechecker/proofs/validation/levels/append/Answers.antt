use Rattle.cedar_typechecker.proofs.Levels.Outcomes.{apart}
use Rattle.cedar_typechecker.proofs.validation.levels.append.Goals as goal

pub returns-clause-once : goal.returns-clause-once
returns-clause-once c = apart c.args.set.keys c.into_iter-error-iterator.ensures.into_iter_gives.4
