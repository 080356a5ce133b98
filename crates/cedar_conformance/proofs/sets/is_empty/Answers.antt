use Rattle.cedar_conformance.proofs.Records.{empty_record}
use Rattle.cedar_conformance.proofs.sets.is_empty.Goals as goal

pub returns : goal.returns
returns c = empty_record c.args.entries.now c.is_empty.result c.is_empty.ensures
