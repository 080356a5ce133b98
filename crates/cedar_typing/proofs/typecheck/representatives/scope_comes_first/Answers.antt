use Rattle.cedar_typing.proofs.Representatives.Laws.{decide, are_alike, are_quiet, test_variables}
use Rattle.cedar_typing.proofs.typecheck.representatives.scope_comes_first.Goals as goal

pub returns : goal.returns
returns c = record { decide = decide; alike = are_alike; quiet = are_quiet; variables = test_variables }
