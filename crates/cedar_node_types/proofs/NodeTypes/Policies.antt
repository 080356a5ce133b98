-- The laws of the types at nodes, of a policy's typed conditions.
use Rattle.std.proofs.Common.{◌≡◌, false, None}
use Rattle.cedar_types.specs.Environments.Linking.{checked_envs}
use Rattle.cedar_types.specs.Environments.RequestEnvs.{Env, Undeclared}
use Rattle.cedar_types.specs.Extensions.Functions.{table_fault}
use Rattle.cedar_types.specs.Schemas.{has_fault}
use Rattle.cedar_types.specs.Templates.{PlainTemplate, condition_of}
use Rattle.cedar_typing.specs.Evaluation.Conformance.{IsOneOf}
use Rattle.cedar_typing.specs.Modes.{IsSoundMode, IsFormedFor}
use Rattle.cedar_node_types.specs.NodeTypes.{HasTypes, OnTypedCondition}
use Rattle.cedar_node_types.specs.NodeTypes.Policies.{IsKnownAndPasses, OnConditionIn, ConditionTypesHold}
use Rattle.cedar_typing.specs.PolicyCheck.{Verdict, SameVerdict, same_success, same_irrelevant, same_failure}
use Rattle.cedar_typing.specs.Setting.{Setting}
use Rattle.cedar_typing.specs.Silence.{IsWithoutFaults}
use Rattle.cedar_typing.specs.Soundness.Policies.{Basis, setting_on}
use Rattle.cedar_typing.specs.TypedExpr.{TypedTree}
use Rattle.cedar_node_types.proofs.NodeTypes.Laws.{derived_typed, checks_fit_types}
use Rattle.cedar_typing.proofs.Policies.Verdicts.{verdict_at_most}
use Rattle.cedar_typing.proofs.Silence.Policies.{passing_policy_is_derived}

-- the same verdicts have the same typed condition
of_same : (P : TypedTree → Type 0) (u v : Verdict) → SameVerdict u v → OnTypedCondition P u → OnTypedCondition P v
of_same P u v same_success h = h
of_same P u v (same_irrelevant p) h = h
of_same P u v (same_failure p) h = h

module _ (b : Basis) (t : PlainTemplate) (schema : has_fault b.schema ≡ false) (formed : IsFormedFor b.mode b.schema)
    (functions : table_fault b.table.functions ≡ None) where
  -- the setting, whose environment does not matter
  abbrev s : Setting
  s = setting_on b t.id Undeclared

  typed : IsSoundMode b.mode → IsKnownAndPasses b t
      → (env : Env) → IsOneOf env (checked_envs b.schema b.mode t) → OnConditionIn HasTypes b t env
  typed mode k env one v c =
      let faultless : IsWithoutFaults s = record { mode = mode; schema = schema; formed = formed; functions = functions } in
      let r = passing_policy_is_derived s t faultless k.named k.errors k.errors' k.warnings k.warnings' k.passes env one in
      of_same HasTypes r.0 v (verdict_at_most (setting_on b t.id env) (condition_of t) r.0 v r.1 c)
      (derived_typed (setting_on b t.id env) (condition_of t) r.0 r.2)

pub condition_types_hold : ConditionTypesHold
condition_types_hold b t schema formed functions = record {
  typed = typed b t schema formed functions;
  fitting = λ k env one world w v c.
      checks_fit_types (setting_on b t.id env) (condition_of t) v schema formed functions c
      (record { mode = k.mode; closed = k.closed; environment = one }) world w;
}
