use Rattle.cedar_typing.proofs.Examples.Premises.{premises, failures}
use Rattle.cedar_typing.proofs.typecheck.laws.premises_are_met.Goals as goal

pub returns : goal.returns
returns c = record { met = premises; unmet = failures }
