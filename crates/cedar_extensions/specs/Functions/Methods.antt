-- The methods that the code lists.
use Rattle.std.specs.Prelude.{None}
use Rattle.cedar_types.specs.Extensions.Functions.{ExtensionFunction}
use Rattle.cedar_extensions.specs.declared.methods.Method.{Method}
use Rattle.cedar_extensions.specs.Functions.{Signature, signature, checked}

-- a method as plain data
abbrev pub signature_of : Method → Signature
signature_of m = signature m.name.now m.takes.now m.gives

-- a method's function, which has no check
abbrev pub unchecked : Method → ExtensionFunction
unchecked m = checked (signature_of m) None
