use Rattle.cedar_typing.proofs.Refinement.Bounds.{strict_bound_is_kept}
use Rattle.cedar_typing.proofs.typecheck.refinement.strict_bounds_are_kept.Goals as goal

pub returns : goal.returns
returns c = strict_bound_is_kept
