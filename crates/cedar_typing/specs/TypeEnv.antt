-- Type environments, in which expressions are typed.
use Rattle.std.specs.Prelude.{List, Option}
use Rattle.cedar_types.specs.declared.base.location.Loc.{Loc}
use Rattle.cedar_types.specs.declared.base.types.ValidationMode.{ValidationMode}
use Rattle.cedar_types.specs.Names.{Text, Path}
use Rattle.cedar_types.specs.Schemas.{Schema}
use Rattle.cedar_types.specs.Environments.RequestEnvs.{Env}
use Rattle.cedar_types.specs.Errors.{Fault, Finding}

-- a type environment: the schema, the mode, the request environment, the extension types that `<`
-- and `<=` compare, and the policy that errors name
pub record TypeEnv : Type 0 where
  pub schema : Schema
  pub mode : ValidationMode
  pub request_env : Env
  pub overloaded_types : List Path
  pub policy : Text

-- an error of the environment's policy at a place
abbrev pub finding : TypeEnv → Option Loc → Fault → Finding
finding env l f = record { place = l; policy = env.policy; fault = f }
