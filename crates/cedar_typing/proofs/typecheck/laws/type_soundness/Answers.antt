use Rattle.cedar_typing.proofs.Soundness.Induction.{type_soundness}
use Rattle.cedar_typing.proofs.typecheck.laws.type_soundness.Goals as goal

pub returns : goal.returns
returns c = type_soundness
