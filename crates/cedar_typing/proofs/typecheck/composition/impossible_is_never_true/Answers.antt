use Rattle.cedar_typing.proofs.Composition.NeverTrue.{never_true, own_success_is_kept}
use Rattle.cedar_typing.proofs.typecheck.composition.impossible_is_never_true.Goals as goal

pub returns : goal.returns
returns c = record { never = never_true; kept = own_success_is_kept }
