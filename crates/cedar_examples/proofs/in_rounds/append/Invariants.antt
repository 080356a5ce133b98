use Rattle.std.proofs.Common.{◌≡◌, ◌++◌, map}
use Rattle.cedar_types.specs.Names.{uid_of}
use Rattle.cedar_examples.proofs.in_rounds.append.Given as goal

abbrev pub invariant-loop-id : goal.invariant-loop-id
invariant-loop-id l =
    map uid_of l.all.items ≡ map uid_of l.fn.all.items ++ map uid_of l.yielded
