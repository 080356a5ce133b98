use Rattle.cedar_typing.proofs.Rules.Laws.{typing, recovery, cut_once}
use Rattle.cedar_typing.proofs.typecheck.laws.rules_are_functions.Goals as goal

pub returns : goal.returns
returns c = record { typing = typing; recovery = recovery; cut = cut_once }
