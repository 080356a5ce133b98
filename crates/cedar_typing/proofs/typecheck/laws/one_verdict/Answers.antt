use Rattle.cedar_typing.proofs.Policies.Verdicts.{verdict_at_most, verdict_at_least, any_order}
use Rattle.cedar_typing.proofs.typecheck.laws.one_verdict.Goals as goal

pub returns : goal.returns
returns c = record { at_most = verdict_at_most; at_least = verdict_at_least; any_order = any_order }
