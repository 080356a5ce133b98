-- The types at the nodes of a policy's typed conditions, for a host that goes on with them.
use Rattle.std.specs.Prelude.{◌≡◌, true, false, List, None}
use Rattle.cedar_types.specs.Environments.Linking.{checked_envs}
use Rattle.cedar_types.specs.Environments.RequestEnvs.{Env}
use Rattle.cedar_types.specs.Errors.{Finding, Warning}
use Rattle.cedar_types.specs.Extensions.Functions.{table_fault}
use Rattle.cedar_types.specs.Schemas.{has_fault}
use Rattle.cedar_types.specs.Templates.{PlainTemplate, condition_of}
use Rattle.cedar_typing.specs.Evaluation.Conformance.{IsOneOf, IsEnvironmentOf}
use Rattle.cedar_typing.specs.Evaluation.World.{World}
use Rattle.cedar_typing.specs.Modes.{IsSoundMode, IsFormedFor}
use Rattle.cedar_node_types.specs.NodeTypes.{HasTypes, ReachedFitTypes, OnTypedCondition}
use Rattle.cedar_typing.specs.PolicyCheck.{Verdict, PolicyChecks}
use Rattle.cedar_typing.specs.Silence.{IsWellNamedTemplate}
use Rattle.cedar_typing.specs.Soundness.{IsWorldOf}
use Rattle.cedar_typing.specs.Soundness.Policies.{Basis, IsSoundAndClosed, setting_on, CheckedOn}
use Rattle.cedar_typing.specs.TypedExpr.{TypedTree}

-- P holds of each typed condition that the policy has in an environment
abbrev pub OnConditionIn : (TypedTree → Type 0) → Basis → PlainTemplate → Env → Type 0
OnConditionIn P b t env =
    (v : Verdict) → PolicyChecks (setting_on b t.id env) (condition_of t) v → OnTypedCondition P v

-- the check of the policy passes in all of its environments, and nothing in the policy is unknown
pub record IsKnownAndPasses (b : Basis) (t : PlainTemplate) : Type 0 where
  pub named : IsWellNamedTemplate b.schema t
  pub errors : List Finding
  pub errors' : List Finding
  pub warnings : List Warning
  pub warnings' : List Warning
  pub passes : CheckedOn b t true errors errors' warnings warnings'

-- each node of each typed condition of such a policy has a type
abbrev pub PassingPolicyHasTypes : Basis → PlainTemplate → Type 0
PassingPolicyHasTypes b t =
    IsSoundMode b.mode → IsKnownAndPasses b t
    → (env : Env) → IsOneOf env (checked_envs b.schema b.mode t) → OnConditionIn HasTypes b t env

-- the reached nodes of a policy's typed condition in an environment fit in each world of the
-- environment, whether or not the policy passes
abbrev pub PolicyFitsTypes : Basis → PlainTemplate → Type 0
PolicyFitsTypes b t =
    IsSoundAndClosed b
    → (env : Env) → IsEnvironmentOf b.schema env
    → (world : World) → IsWorldOf (setting_on b t.id env) world
    → OnConditionIn (ReachedFitTypes world) b t env

pub record PolicyTypesHold (b : Basis) (t : PlainTemplate) : Type 0 where
  pub typed : PassingPolicyHasTypes b t
  pub fitting : PolicyFitsTypes b t

-- both hold of each policy, by a schema and a table without faults, as all are that the program makes
abbrev pub ConditionTypesHold : Type 0
ConditionTypesHold =
    (b : Basis) (t : PlainTemplate)
    → has_fault b.schema ≡ false → IsFormedFor b.mode b.schema
    → table_fault b.table.functions ≡ None
    → PolicyTypesHold b t
