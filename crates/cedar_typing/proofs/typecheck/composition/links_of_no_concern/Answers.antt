use Rattle.cedar_typing.proofs.Composition.SlotFree.{links_do_not_matter}
use Rattle.cedar_typing.proofs.typecheck.composition.links_of_no_concern.Goals as goal

pub returns : goal.returns
returns c = links_do_not_matter
