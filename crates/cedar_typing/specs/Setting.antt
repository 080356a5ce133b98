-- Settings: all that typing depends on.
use Rattle.std.specs.Prelude.{List}
use Rattle.cedar_types.specs.Extensions.Functions.{ExtensionFunction}
use Rattle.cedar_types.specs.Extensions.{ExtensionTable}
use Rattle.cedar_typing.specs.TypeEnv.{TypeEnv}
pub mod VariableTypes
pub mod LinkedSlots

-- the type environment, in which every form is typed, and the extension functions, on which only
-- calls depend
pub record Setting : Type 0 where
  pub env : TypeEnv
  pub functions : List ExtensionFunction

-- the table of the setting's extension functions
abbrev pub table : Setting → ExtensionTable
table s = record { functions = s.functions; overloaded_types = s.env.overloaded_types }
