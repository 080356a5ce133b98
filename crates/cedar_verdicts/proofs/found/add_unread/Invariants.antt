use Rattle.std.proofs.Common.{◌≡◌, ◌++◌, length}
use Rattle.std.specs.Vec.Iter.{into_iter_items, into_iter_len}
use Rattle.cedar_typechecker.specs.Levels.Views.{findings}
use Rattle.cedar_host.specs.Found.{listed}
use Rattle.cedar_verdicts.specs.Found.{AreAdded}
use Rattle.cedar_verdicts.proofs.found.add_unread.Given as goal

-- the errors so far are added
abbrev pub invariant-loop-error : goal.invariant-loop-error
invariant-loop-error l = record {
  added : AreAdded (findings l.yielded) (listed l.initial.errors) (listed l.errors);
  rest : l.yielded ++ into_iter_items l.error-iterator ≡ into_iter_items l.initial.error-iterator;
  counted : into_iter_len l.error-iterator ≡ length (into_iter_items l.error-iterator);
}
