use Rattle.cedar_examples.proofs.LeftOut.{left_out_premises}
use Rattle.cedar_examples.proofs.LoadedData.{loaded_data_examples}
use Rattle.cedar_examples.proofs.Places.{place_examples}
use Rattle.cedar_examples.proofs.hosts.examples_of_laws.Goals as goal

pub returns : goal.returns
returns c = record { left_out = left_out_premises; loaded = loaded_data_examples; places = place_examples }
