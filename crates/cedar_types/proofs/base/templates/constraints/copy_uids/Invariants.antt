use Rattle.std.proofs.Common.{◌≡◌, take, map}
use Rattle.cedar_types.specs.Names.{placed_uid}
use Rattle.cedar_types.proofs.base.templates.constraints.copy_uids.Given as goal

abbrev pub invariant-loop-uid : goal.invariant-loop-uid
invariant-loop-uid l = map placed_uid l.copies.items ≡ map placed_uid (take l.uid-index l.uid-items)
