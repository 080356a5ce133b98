use Rattle.cedar_alike.proofs.Alike.Environments.{ids_decided}
use Rattle.cedar_alike.proofs.environments.same_action.Goals as goal

pub returns-in-Some-Some : goal.returns-in-Some-Some
returns-in-Some-Some c =
    ids_decided c.eq.result c.args.one c.args.other c.in-Some-Some.action c.in-Some-Some.other c.in-Some-Some.is-0 c.in-Some-Some.is-1 c.eq.ensures
