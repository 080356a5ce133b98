use Rattle.std.proofs.Common.{refl}
use Rattle.cedar_json.proofs.ReadEscapes.{unit_is}
use Rattle.cedar_json.proofs.escapes.unit.Goals as goal

pub returns : goal.returns
returns c =
    unit_is c.args.bytes.now c.args.at c.in_ok-first.first c.in_ok-second.second c.in_ok-third.third c.in_ok-fourth.fourth _
    c.in_ok-first.ensures c.in_ok-second.ensures c.in_ok-third.ensures c.in_ok-fourth.ensures refl
