use Rattle.std.proofs.Common.{refl}
use Rattle.cedar_host.proofs.HandedIn.{find_slices}
use Rattle.cedar_host.proofs.rounds.Rounds.into_ids.Goals as goal

pub returns-clause-slices : goal.returns-clause-slices
returns-clause-slices c = find_slices c.args.self _ refl
