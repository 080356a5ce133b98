-- Environments that agree on what a policy reads have one answer for the policy's condition.
use Rattle.std.proofs.Common.{◌≡◌, ℕ, ◌+◌, true, false, if◌then◌else◌, [], ◌∷◌, Option, Some, None, sym, ◌∙◌, ap}
use Rattle.cedar_types.specs.declared.base.expressions.operators.Var.{Var}
use Rattle.cedar_types.specs.declared.base.names.slots.SlotId.{SlotId}
use Rattle.cedar_types.specs.Environments.RequestEnvs.{Env, Declared, Undeclared}
use Rattle.cedar_types.specs.Names.{Uid, is_action_path}
use Rattle.cedar_types.specs.Schemas.{Schema, has_fault, declares_action, declares_type}
use Rattle.cedar_types.specs.Templates.{PlainTemplate, made, scope_at, action_scope_at, scope_condition, condition_of, with_rest}
use Rattle.cedar_types.specs.Expressions.Tree.{and}
use Rattle.cedar_types.specs.Types.{TEntity}
use Rattle.cedar_types.specs.Types.Lookups.{literal_type}
use Rattle.cedar_types.proofs.Schema.Faultless.{faultless}
use Rattle.cedar_typing.specs.Capabilities.{Caps}
use Rattle.cedar_typing.specs.Composition.{in_env}
use Rattle.cedar_typing.specs.Infer.{infer_within}
use Rattle.cedar_typing.specs.Rules.ShortCircuit.{conjunction}
use Rattle.cedar_typing.specs.Setting.{Setting}
use Rattle.cedar_typing.specs.TypedExpr.{Source}
use Rattle.cedar_alike.specs.Conditions.{AdmitAlike, AgreeOnRest, AgreeOnPolicy, PolicyAgreementIsEnough}
use Rattle.cedar_alike.proofs.Alike.Actions.{action_same}
use Rattle.cedar_alike.proofs.Alike.Induction.{sides_same, same_expression}
use Rattle.cedar_alike.proofs.Alike.Laws.{once_if_inferred}

-- declared actions of one entity type have one type
declared_typed : (s : Schema) (u v : Uid) → declares_action s.actions u ≡ true → declares_action s.actions v ≡ true
    → u.entity_type ≡ v.entity_type → literal_type s u ≡ literal_type s v
declared_typed s u v h k e =
    λ i. if (if is_action_path (e i) then (h ∙ sym k) i else declares_type s.types (e i)) then Some (TEntity (e i ∷ [])) else None

module _ (s : Setting) (t : PlainTemplate) (no_fault : has_fault s.env.schema ≡ false) where
  action_alike : (e e' : Env) → AdmitAlike s.env.schema t.action e e' → (prior : Caps) (k : ℕ)
      → infer_within (in_env s e) (action_scope_at t.place t.action) prior k ≡ infer_within (in_env s e') (action_scope_at t.place t.action) prior k
  action_alike Undeclared e' h prior k = absurd h
  action_alike (Declared d p r) Undeclared h prior k = absurd h
  action_alike (Declared d p r) (Declared d' p' r') h prior k =
      action_same s d d' p r p' r' t.place (declared_typed s.env.schema d.action d'.action h.declared h.declared' h.type)
      (ap is_action_path h.type) (faultless s.env.schema no_fault).actions t.action h.admitted prior k

  module _ (e e' : Env) (h : AgreeOnPolicy s.env.schema t e e') where
    both_tests : (prior : Caps) (k : ℕ)
        → infer_within (in_env s e) (and (made t.place) (scope_at t.place Var.Principal SlotId.Principal t.principal) (action_scope_at t.place t.action)) prior k
        ≡ infer_within (in_env s e') (and (made t.place) (scope_at t.place Var.Principal SlotId.Principal t.principal) (action_scope_at t.place t.action)) prior k
    both_tests prior k =
        sides_same s e e' conjunction (made t.place) (scope_at t.place Var.Principal SlotId.Principal t.principal)
        (action_scope_at t.place t.action) prior k
        (same_expression s e e' (scope_at t.place Var.Principal SlotId.Principal t.principal) h.principal prior (k + 1))
        (λ known. action_alike e e' h.action known (k + 1))

    scope_alike : (prior : Caps) (k : ℕ)
        → infer_within (in_env s e) (scope_condition t) prior k ≡ infer_within (in_env s e') (scope_condition t) prior k
    scope_alike prior k =
        sides_same s e e' conjunction (made t.place)
        (and (made t.place) (scope_at t.place Var.Principal SlotId.Principal t.principal) (action_scope_at t.place t.action))
        (scope_at t.place Var.Resource SlotId.Resource t.resource) prior k (both_tests prior (k + 1))
        (λ known. same_expression s e e' (scope_at t.place Var.Resource SlotId.Resource t.resource) h.resource known (k + 1))

    with_rest_alike : (rest : Option Source) → AgreeOnRest e e' rest → (prior : Caps) (k : ℕ)
        → infer_within (in_env s e) (with_rest t.place (scope_condition t) rest) prior k
        ≡ infer_within (in_env s e') (with_rest t.place (scope_condition t) rest) prior k
    with_rest_alike None g prior k = scope_alike prior k
    with_rest_alike (Some rest) g prior k =
        sides_same s e e' conjunction (made t.place) (scope_condition t) rest prior k (scope_alike prior (k + 1))
        (λ known. same_expression s e e' rest g known (k + 1))

pub policy_agreement_is_enough : PolicyAgreementIsEnough
policy_agreement_is_enough s t e e' no_fault h =
    once_if_inferred s e e' (condition_of t) (λ prior k. with_rest_alike s t no_fault e e' h t.rest h.rest prior k)
