use Rattle.cedar_typing.proofs.Examples.Conforming.{conformity_allows}
use Rattle.cedar_typing.proofs.Examples.LeftOpen.{premises_leave_open}
use Rattle.cedar_typing.proofs.Examples.NeededPremises.{premises_needed}
use Rattle.cedar_typing.proofs.Examples.PolicySoundness.{policy_premises}
use Rattle.cedar_typing.proofs.typecheck.composition.examples_of_policies.Goals as goal

pub returns : goal.returns
returns c = record {
  met = policy_premises;
  allows = conformity_allows;
  left_open = premises_leave_open;
  needed = premises_needed;
}
