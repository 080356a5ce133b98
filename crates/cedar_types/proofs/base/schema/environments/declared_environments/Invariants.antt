use Rattle.std.proofs.Common.{◌≡◌, take, map}
use Rattle.cedar_types.specs.Schemas.Declarations.{declared_action}
use Rattle.cedar_types.specs.Environments.{declared_env, environments_of}
use Rattle.cedar_types.proofs.base.schema.environments.declared_environments.Given as goal

-- The environments are those of the actions so far
abbrev pub invariant-loop-action : goal.invariant-loop-action
invariant-loop-action l = map declared_env l.environments.items ≡ environments_of (map declared_action (take l.action-index l.action-items))
