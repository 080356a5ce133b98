use Rattle.cedar_alike.proofs.Alike.Environments.{types_decided}
use Rattle.cedar_alike.proofs.environments.same_type.Goals as goal

pub returns-in-Some-Some : goal.returns-in-Some-Some
returns-in-Some-Some c =
    types_decided c.eq.result c.args.one c.args.other c.in-Some-Some.one c.in-Some-Some.other c.in-Some-Some.is-0 c.in-Some-Some.is-1 c.eq.ensures
