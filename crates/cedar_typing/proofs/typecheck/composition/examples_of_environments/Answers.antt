use Rattle.cedar_typing.proofs.Examples.Composition.{environments, slots_in_the_rest, own_env_missing}
use Rattle.cedar_typing.proofs.typecheck.composition.examples_of_environments.Goals as goal

pub returns : goal.returns
returns c = record { environments = environments; rest = slots_in_the_rest; own = own_env_missing }
