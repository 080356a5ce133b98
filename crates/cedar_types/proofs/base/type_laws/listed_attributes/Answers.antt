use Rattle.cedar_types.proofs.Schema.ListedAttributes.{looked_up}
use Rattle.cedar_types.proofs.base.type_laws.listed_attributes.Goals as goal

pub returns : goal.returns
returns c = looked_up
