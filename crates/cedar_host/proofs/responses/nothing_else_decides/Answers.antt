use Rattle.cedar_host.proofs.ResponseLaws.{order_decides_nothing, impossible_decides_nothing}
use Rattle.cedar_host.proofs.responses.nothing_else_decides.Goals as goal

pub returns : goal.returns
returns c = record { order = order_decides_nothing; impossible = impossible_decides_nothing }
