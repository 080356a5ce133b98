use Rattle.cedar_typechecker.proofs.Levels.Outcomes.{apart}
use Rattle.cedar_typechecker.proofs.validation.append_keys.Goals as goal

pub returns-clause-once : goal.returns-clause-once
returns-clause-once c = apart _ c.into_keys-error-items.ensures.ordered
