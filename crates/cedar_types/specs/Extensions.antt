-- Tables of extension functions as plain data.
use Rattle.std.specs.Prelude.{List, map}
use Rattle.cedar_types.specs.declared.base.expressions.extensions.ExtensionSchemas.{ExtensionSchemas}
use Rattle.cedar_types.specs.Extensions.Functions.{Refusals, ExtensionFunction, function_of}
use Rattle.cedar_types.specs.Names.{Path, path_of}
pub mod Functions
pub mod ArgumentChecks

-- the functions, and the extension types that `<` and `<=` compare
pub record ExtensionTable : Type 0 where
  pub functions : List ExtensionFunction
  pub overloaded_types : List Path

module _ {C : Type 0} where
  -- the functions of a table, where `meaning` gives the meaning of each check of arguments
  unfoldable pub functions_of : (C → Refusals) → ExtensionSchemas C → List ExtensionFunction
  functions_of meaning s = map (function_of meaning) s.functions.items

  -- the extension types that `<` and `<=` compare, ascending
  unfoldable pub overloaded_types_of : ExtensionSchemas C → List Path
  overloaded_types_of s = map path_of s.overloaded_types.keys
