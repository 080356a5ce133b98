-- A policy's condition is typed in one way in all environments that agree on what it reads, where the
-- scope's test of the action only has to come out alike.
use Rattle.std.specs.Prelude.{◌≡◌, true, false, Option, Some, None}
use Rattle.cedar_types.specs.declared.base.expressions.operators.Var.{Var}
use Rattle.cedar_types.specs.declared.base.names.slots.SlotId.{SlotId}
use Rattle.cedar_types.specs.Environments.{DeclaredEnv}
use Rattle.cedar_types.specs.Environments.Representatives.{admits}
use Rattle.cedar_types.specs.Environments.RequestEnvs.{Env, Declared}
use Rattle.cedar_types.specs.Schemas.{Schema, has_fault, declares_action}
use Rattle.cedar_types.specs.Templates.{ActionScope, PlainTemplate, scope_at, condition_of}
use Rattle.cedar_typing.specs.Setting.{Setting}
use Rattle.cedar_typing.specs.TypedExpr.{Source}
use Rattle.cedar_alike.specs.Reads.{AgreeOn}
use Rattle.cedar_alike.specs.TypedOnce.{IsTypedOnce}

-- the schema declares both actions, they are of one type, and the scope admits both or neither
pub record AreAdmittedAlike (s : Schema) (a : ActionScope) (d d' : DeclaredEnv) : Type 0 where
  pub declared : declares_action s.actions d.action ≡ true
  pub declared' : declares_action s.actions d'.action ≡ true
  pub type : d.action.entity_type ≡ d'.action.entity_type
  pub admitted : admits s.actions a d.action ≡ admits s.actions a d'.action

-- both environments have a declared action, and the scope admits these actions alike
abbrev pub AdmitAlike : Schema → ActionScope → Env → Env → Type 0
AdmitAlike s a (Declared d p r) (Declared d' p' r') = AreAdmittedAlike s a d d'
AdmitAlike s a e e' = ⊥

-- the environments agree on what the rest of a policy reads, if it has a rest
abbrev pub AgreeOnRest : Env → Env → Option Source → Type 0
AgreeOnRest e e' None = Unit {0}
AgreeOnRest e e' (Some rest) = AgreeOn e e' rest

-- the environments agree on what the policy reads in its rest and in the scope's tests of principal
-- and resource, and the scope admits their actions alike
pub record AgreeOnPolicy (s : Schema) (t : PlainTemplate) (e e' : Env) : Type 0 where
  pub principal : AgreeOn e e' (scope_at t.place Var.Principal SlotId.Principal t.principal)
  pub action : AdmitAlike s t.action e e'
  pub resource : AgreeOn e e' (scope_at t.place Var.Resource SlotId.Resource t.resource)
  pub rest : AgreeOnRest e e' t.rest

-- such environments have one answer for the policy's condition, by a schema without faults
abbrev pub PolicyAgreementIsEnough : Type 0
PolicyAgreementIsEnough =
    (s : Setting) (t : PlainTemplate) (e e' : Env) → has_fault s.env.schema ≡ false
    → AgreeOnPolicy s.env.schema t e e' → IsTypedOnce s e e' (condition_of t)
