use Rattle.cedar_typing.proofs.Examples.Values.{records_of_type, sets_of_type, entities_of_type, leaves_of_type}
use Rattle.cedar_typing.proofs.typecheck.laws.examples_of_values.Goals as goal

pub returns : goal.returns
returns c = record { records = records_of_type; sets = sets_of_type; entities = entities_of_type; leaves = leaves_of_type }
