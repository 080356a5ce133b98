-- The promise to a host that goes on with the typed conditions of a policy, for example a compiler of
-- policies to queries.
use Rattle.std.specs.Prelude.{◌≡◌, List, map, Option, Some, None, All, IsPermutation}
use Rattle.cedar_types.specs.Environments.{DeclaredEnv}
use Rattle.cedar_types.specs.Environments.Linking.{checked_envs}
use Rattle.cedar_types.specs.Environments.RequestEnvs.{Env, env_of}
use Rattle.cedar_types.specs.Errors.{Finding}
use Rattle.cedar_types.specs.Templates.{PlainTemplate, condition_of}
use Rattle.cedar_typing.specs.Composition.{SlotsInScopeAlone, own_env}
use Rattle.cedar_typing.specs.Evaluation.Conformance.{IsOneOf, FitsRequest, IsEnvironmentOf}
use Rattle.cedar_typing.specs.Evaluation.World.{World}
use Rattle.cedar_typing.specs.PolicyCheck.{Verdict, succeeds, irrelevant, fails, PolicyChecks}
use Rattle.cedar_typing.specs.Soundness.Policies.{Basis, IsSoundAndClosed, IsConforming, setting_on}
use Rattle.cedar_typing.specs.Soundness.{IsWorldOf}
use Rattle.cedar_typing.specs.TypedCopies.{EvaluatesAs}
use Rattle.cedar_typing.specs.TypedExpr.{TypedTree, typed_tree}
use Rattle.cedar_host.specs.declared.conditions.TypedCondition.{TypedCondition}

abbrev pub env_in : TypedCondition → Env
env_in c = env_of c.env

abbrev pub tree_in : TypedCondition → TypedTree
tree_in c = typed_tree c.condition

-- ---- the conditions that are found

-- the typed condition of a verdict, if it has one
abbrev pub typed_condition_in : Verdict → Option TypedTree
typed_condition_in (succeeds x) = Some x
typed_condition_in (irrelevant es x) = Some x
typed_condition_in (fails es) = None

-- the condition is the one of the policy's check in its environment
abbrev pub IsOfCheck : Basis → PlainTemplate → TypedCondition → Type 0
IsOfCheck b t c =
    (v : Verdict) × PolicyChecks (setting_on b t.id (env_in c)) (condition_of t) v
    × (typed_condition_in v ≡ Some (tree_in c))

-- the check of the policy fails in some environment
abbrev pub FailsSomewhere : Basis → PlainTemplate → Type 0
FailsSomewhere b t =
    (env : Env) × IsOneOf env (checked_envs b.schema b.mode t)
    × (es : List Finding) × PolicyChecks (setting_on b t.id env) (condition_of t) (fails es)

-- each environment of the policy has its condition, in some order
pub record AreOfAllChecks (b : Basis) (t : PlainTemplate) (cs : List TypedCondition) : Type 0 where
  pub environments : IsPermutation (map env_in cs) (checked_envs b.schema b.mode t)
  pub checked : All (IsOfCheck b t) cs

-- there are conditions if the check fails in no environment
abbrev pub AreConditionsOf : Basis → PlainTemplate → Option (List TypedCondition) → Type 0
AreConditionsOf b t None = FailsSomewhere b t
AreConditionsOf b t (Some cs) = AreOfAllChecks b t cs

-- ---- the meaning of typed conditions

-- in each world of its environment, the condition evaluates as the policy's condition does
abbrev pub MeansTheCondition : Basis → PlainTemplate → TypedCondition → Type 0
MeansTheCondition b t c =
    IsSoundAndClosed b → IsEnvironmentOf b.schema (env_in c)
    → (world : World) → IsWorldOf (setting_on b t.id (env_in c)) world
    → EvaluatesAs world (tree_in c) (condition_of t)

-- the condition's environment is the request's own: the one of the request's types and action, with each
-- slot of the policy linked to its variable's type
abbrev pub IsOwnOf : PlainTemplate → World → TypedCondition → Type 0
IsOwnOf t world c = (d : DeclaredEnv) × FitsRequest d world.request × (env_in c ≡ own_env t d)

-- each conforming world has its own condition among these, and that evaluates as the policy's condition
-- does, whatever the slots are bound to, if the policy's slots stand only in its scope
abbrev pub CoverRequests : Basis → PlainTemplate → List TypedCondition → Type 0
CoverRequests b t cs =
    IsSoundAndClosed b → SlotsInScopeAlone t
    → (world : World) → IsConforming b world
    → (c : TypedCondition) × IsOneOf c cs × IsOwnOf t world c
    × EvaluatesAs world (tree_in c) (condition_of t)

pub record MeanTheCondition (b : Basis) (t : PlainTemplate) (cs : List TypedCondition) : Type 0 where
  pub each : (c : TypedCondition) → IsOneOf c cs → MeansTheCondition b t c
  pub covered : CoverRequests b t cs

-- the conditions mean the policy's, if there are any
abbrev pub MeanItIfThere : Basis → PlainTemplate → Option (List TypedCondition) → Type 0
MeanItIfThere b t None = Unit {0}
MeanItIfThere b t (Some cs) = MeanTheCondition b t cs
