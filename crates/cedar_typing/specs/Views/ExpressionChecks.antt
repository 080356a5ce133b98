-- The setting in which an expression is typed where it stands.
use Rattle.cedar_types.specs.declared.base.names.policy_ids.PolicyID.{PolicyID}
use Rattle.cedar_types.specs.declared.types.request_env.RequestEnv.{RequestEnv}
use Rattle.cedar_types.specs.Environments.RequestEnvs.{env_of}
use Rattle.cedar_types.specs.Extensions.Functions.{Refusals}
use Rattle.cedar_types.specs.Names.{text_of}
use Rattle.cedar_typing.specs.declared.typecheck.typechecker.Typechecker.{Typechecker}
use Rattle.cedar_typing.specs.Setting.{Setting}
use Rattle.cedar_typing.specs.Soundness.Policies.{setting_on}
use Rattle.cedar_typing.specs.Views.Checks.{basis_of}

-- the setting of an expression of the policy of this id. `meaning` gives the meaning of each check of
-- arguments
abbrev pub setting_by : {C : Type 0} → (C → Refusals) → Typechecker C → PolicyID → RequestEnv → Setting
setting_by meaning c policy env = setting_on (basis_of meaning c) (text_of policy.text) (env_of env)
