use Rattle.std.proofs.Common.{◌≡◌, None, drop}
use Rattle.std.specs.List.{list_any}
use Rattle.cedar_types.specs.Extensions.Functions.{function_of, lacks_arguments}
use Rattle.cedar_types.proofs.base.expressions.extensions.faults.has_variadic_without_arguments.Given as goal

-- The remaining functions decide the answer
abbrev pub invariant-loop-function : goal.invariant-loop-function
invariant-loop-function g l =
    list_any (λ f. lacks_arguments (function_of (λ check args. None) f)) (drop l.function-index l.functions)
    ≡ list_any (λ f. lacks_arguments (function_of (λ check args. None) f)) l.fn.functions
