use Rattle.std.proofs.Common.{◌≡◌, ◌++◌, map, drop}
use Rattle.cedar_types.specs.Extensions.Functions.{function_of}
use Rattle.cedar_extensions.specs.Functions.Methods.{unchecked}
use Rattle.cedar_extensions.proofs.functions.add_methods.Given as goal

-- the functions so far, followed by those of the methods to come, are all functions
abbrev pub invariant-loop-method : goal.invariant-loop-method
invariant-loop-method g l =
    (meaning : _)
    → map (function_of meaning) l.functions.items ++ map unchecked (drop l.method-index l.methods)
    ≡ map (function_of meaning) l.fn.functions.items ++ map unchecked l.methods
