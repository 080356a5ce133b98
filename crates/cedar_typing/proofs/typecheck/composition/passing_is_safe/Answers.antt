use Rattle.cedar_typing.proofs.Soundness.Policies.{promises_are_kept}
use Rattle.cedar_typing.proofs.typecheck.composition.passing_is_safe.Goals as goal

pub returns : goal.returns
returns c = promises_are_kept
