use Rattle.cedar_json.proofs.ReadItems.{items_make_the_array}
use Rattle.cedar_json.proofs.examples.items_make_the_array.Goals as goal

pub returns : goal.returns
returns c = items_make_the_array
