use Rattle.cedar_typing.proofs.Cuts.{by_depth}
use Rattle.cedar_typing.proofs.Rules.Laws.{three_at_most, three_at_least}
use Rattle.cedar_typing.proofs.typecheck.laws.one_of_three.Goals as goal

pub returns : goal.returns
returns c = record { at_most = three_at_most; at_least = three_at_least; cut_by_depth = by_depth }
