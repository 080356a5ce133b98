-- Settings in which levels are checked.
use Rattle.std.specs.Prelude.{ℕ, Option, Some, None}
use Rattle.cedar_types.specs.Names.{Text, Uid}
use Rattle.cedar_types.specs.Environments.RequestEnvs.{Env, Declared, Undeclared}
use Rattle.cedar_types.specs.Schemas.{Schema}

pub record LevelSetting : Type 0 where
  -- the action of the environment, if that is one of a declared action
  pub action : Option Uid
  pub schema : Schema
  -- the greatest level that is allowed
  pub maximum : ℕ
  -- the policy that errors name
  pub policy : Text

-- the action of an environment, if that is one of a declared action
abbrev pub action_of : Env → Option Uid
action_of (Declared d ps rs) = Some d.action
action_of Undeclared = None
