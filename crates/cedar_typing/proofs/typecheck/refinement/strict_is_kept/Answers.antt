use Rattle.cedar_typing.proofs.Refinement.Induction.{strict_is_kept}
use Rattle.cedar_typing.proofs.typecheck.refinement.strict_is_kept.Goals as goal

pub returns : goal.returns
returns c = strict_is_kept
