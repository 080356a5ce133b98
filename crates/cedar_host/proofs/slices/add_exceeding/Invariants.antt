use Rattle.std.proofs.Common.{◌≡◌, ◌++◌}
use Rattle.cedar_typing.specs.PolicyCheck.Outcome.{Adds}
use Rattle.cedar_typechecker.specs.Levels.Views.{findings}
use Rattle.cedar_host.specs.Found.{listed}
use Rattle.cedar_host.proofs.slices.add_exceeding.Given as goal

-- the errors so far are added
abbrev pub invariant-loop-error : goal.invariant-loop-error
invariant-loop-error l = record {
  added : Adds (listed l.initial.errors) (findings l.yielded) (listed l.errors);
  rest : l.yielded ++ l.error-iterator ≡ l.initial.error-iterator;
}
