use Rattle.std.proofs.Common.{length}
use Rattle.cedar_extensions.proofs.texts.numbers.+read_unit.Given as goal

abbrev pub decreases-read_unit : goal.decreases-read_unit
decreases-read_unit l = length l.unit.now
