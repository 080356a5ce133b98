use Rattle.cedar_alike.proofs.Examples.{each_part_decides}
use Rattle.cedar_alike.proofs.laws.each_part_decides.Goals as goal

pub returns : goal.returns
returns c = each_part_decides
