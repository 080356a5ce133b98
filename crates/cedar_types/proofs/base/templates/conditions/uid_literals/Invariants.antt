use Rattle.std.proofs.Common.{◌≡◌, take, map}
use Rattle.cedar_types.specs.Names.{placed_uid}
use Rattle.cedar_types.specs.Expressions.View.{written}
use Rattle.cedar_types.specs.Templates.{uid_at}
use Rattle.cedar_types.proofs.base.templates.conditions.uid_literals.Given as goal

abbrev pub invariant-loop-uid : goal.invariant-loop-uid
invariant-loop-uid l = map written l.literals.items ≡ map (uid_at l.loc) (map placed_uid (take l.uid-index l.uid-items))
