use Rattle.std.proofs.Common.{◌≡◌, ◌++◌}
use Rattle.cedar_typechecker.specs.Levels.Views.{findings}
use Rattle.cedar_typechecker.proofs.validation.levels.append.Given as goal

abbrev pub invariant-loop-error : goal.invariant-loop-error
invariant-loop-error l = findings l.found.items ≡ findings l.fn.found.items ++ findings l.yielded
