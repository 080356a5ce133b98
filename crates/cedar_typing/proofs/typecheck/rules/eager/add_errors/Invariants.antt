use Rattle.std.proofs.Common.{◌≡◌, ◌++◌}
use Rattle.cedar_typing.specs.Views.{findings}
use Rattle.cedar_typing.proofs.typecheck.rules.eager.add_errors.Given as goal

abbrev pub invariant-loop-error : goal.invariant-loop-error
invariant-loop-error l =
    findings l.errors.items ++ findings l.error-iterator.rest.items
    ≡ findings l.fn.errors.items ++ findings l.fn.more.items
