-- The survey of some environments of a policy, which grows by others.
use Rattle.std.specs.Prelude.{◌≡◌, Bool, ◌&&◌, List, [], ◌∷◌, ◌++◌, map, Option, Some, None, IsPermutation}
use Rattle.cedar_types.specs.declared.base.schema.ValidatorSchema.{ValidatorSchema}
use Rattle.cedar_types.specs.declared.base.types.ValidationMode.{ValidationMode}
use Rattle.cedar_types.specs.Environments.{DeclaredEnv, action_environments}
use Rattle.cedar_types.specs.Environments.Linking.{checked_envs}
use Rattle.cedar_types.specs.Environments.RequestEnvs.{Env, unlinked}
use Rattle.cedar_types.specs.Extensions.Functions.{Refusals}
use Rattle.cedar_types.specs.Names.{Uid, uid_of}
use Rattle.cedar_types.specs.Schemas.{DeclaredAction, action_named}
use Rattle.cedar_types.specs.Schemas.Contents.{schema_of}
use Rattle.cedar_types.specs.Templates.{PlainTemplate, template_of}
use Rattle.cedar_typing.specs.declared.typecheck.request_env_checks.RequestEnvChecks.{RequestEnvChecks}
use Rattle.cedar_typing.specs.PolicyCheck.{Verdict, PolicyChecks}
use Rattle.cedar_typing.specs.PolicyCheck.Outcome.{VerdictsOf}
use Rattle.cedar_typing.specs.Soundness.Policies.{Basis}
use Rattle.cedar_typing.specs.Views.Checks.{setting_within}
use Rattle.cedar_typing.specs.Views.EnvironmentChecks.{checker_of, template_in, condition_in, checks_left}
use Rattle.cedar_typechecker.specs.declared.survey.Survey.{Survey}
use Rattle.cedar_typechecker.specs.declared.survey.left_out.DecidedScope.{DecidedScope}
use Rattle.cedar_typechecker.specs.LeftOut.{Admits, is_left_out_by, visits_in_env}
use Rattle.cedar_typechecker.specs.Levels.Outcome.{ChecksOn}
use Rattle.cedar_typechecker.specs.Surveys.{Surveys}

-- s is a survey of these environments, in some order, by a verdict of each
pub record IsSurveyed (b : Basis) (t : PlainTemplate) (s : Survey) (all : List Env) : Type 0 where
  pub listed : List Env
  pub verdicts : List Verdict
  pub in_some_order : IsPermutation listed all
  pub checked : VerdictsOf (ChecksOn b t) listed verdicts
  pub surveys : Surveys b.schema s listed verdicts

-- the survey of any environments became one of them and of these
abbrev pub TakesIn : Basis → PlainTemplate → Survey → Survey → List Env → Type 0
TakesIn b t old new own =
    (all : List Env) → IsSurveyed b t old all → IsSurveyed b t new (all ++ own)

-- the environments of an action, if it is declared
abbrev pub envs_of_declared : Option DeclaredAction → List DeclaredEnv
envs_of_declared None = []
envs_of_declared (Some a) = action_environments a.name a.applies_to

-- the environments of the action of this name, without slots
abbrev pub envs_named : List DeclaredAction → Uid → List Env
envs_named acts u = map unlinked (envs_of_declared (action_named acts u))

-- the ids of the actions that the scope admits
abbrev pub admitted_by : DecidedScope → List Uid
admitted_by d = map uid_of d.admitted.now.keys

-- an environment's action is left out, and an `in` of the scope is typed there
abbrev pub asks_of : DecidedScope → Env → Bool
asks_of d e =
    is_left_out_by (admitted_by d) e
    && visits_in_env (schema_of d.schema.now) d.mode (template_of d.template.now) e

module _ {C : Type 0} (meaning : C → Refusals) (c : RequestEnvChecks C) where
  -- the checks are those of the policy t by this schema, on a basis
  pub record AreChecksOn (schema : ValidatorSchema) (b : Basis) (t : PlainTemplate) : Type 0 where
    pub by_schema : b.schema ≡ schema_of schema
    pub are_on : (e : Env) (v : Verdict)
        → PolicyChecks (setting_within meaning (checker_of c) (template_in c) e) (condition_in c) v
        → ChecksOn b t e v

  -- they are the checks of all environments of the policy, in this mode
  pub record AreAllChecksOn (schema : ValidatorSchema) (m : ValidationMode) (b : Basis) (t : PlainTemplate) : Type 0 where
    pub are_on : AreChecksOn schema b t
    pub by_mode : b.mode ≡ m
    pub all_left : IsPermutation (checks_left c) (checked_envs b.schema b.mode t)

  -- they are checks of a scope that is decided, and these environments are all that the policy is checked in
  pub record IsDecidedBy (d : DecidedScope) (b : Basis) (left : List Env) : Type 0 where
    pub are_on : AreChecksOn d.schema.now b (template_of d.template.now)
    pub by_mode : b.mode ≡ d.mode
    pub admits : Admits b.schema.actions (template_of d.template.now).action (admitted_by d)
    pub all_left : IsPermutation left (checked_envs b.schema b.mode (template_of d.template.now))

  -- all of them are still to come, or all after one
  abbrev pub IsDecidedOn : DecidedScope → Basis → Type 0
  IsDecidedOn d b = IsDecidedBy d b (checks_left c)

  abbrev pub IsDecidedFrom : DecidedScope → Basis → Env → Type 0
  IsDecidedFrom d b e = IsDecidedBy d b (e ∷ checks_left c)
