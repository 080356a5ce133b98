-- Promises to a host: policies, reports and typed conditions for which a promise is false. Each
-- example holds of all data and of all reports that meet its premises.
use Rattle.std.specs.Prelude.{◌≡◌, ℕ, true, false, [], ◌∷◌, None}
use Rattle.std.specs.BTreeMap.{BTreeMap}
use Rattle.std.specs.declared.alloc.Global.{Global}
use Rattle.std.specs.declared.vec.Vec.{Vec}
use Rattle.cedar_types.specs.declared.base.expressions.operators.UnaryOp.{UnaryOp}
use Rattle.cedar_types.specs.declared.base.names.entities.EntityUID.{EntityUID}
use Rattle.cedar_types.specs.declared.base.names.slots.SlotId.{SlotId}
use Rattle.cedar_types.specs.declared.base.schema.ValidatorSchema.{ValidatorSchema}
use Rattle.cedar_types.specs.declared.base.templates.Template.{Template}
use Rattle.cedar_types.specs.declared.base.types.ValidationMode.TheVariants.{Strict}
use Rattle.cedar_types.specs.Environments.RequestEnvs.{Undeclared}
use Rattle.cedar_types.specs.Expressions.Tree.{bool, lit, unary}
use Rattle.cedar_types.specs.Extensions.Functions.{Refusals}
use Rattle.cedar_types.specs.Schemas.Contents.{schema_of}
use Rattle.cedar_types.specs.Templates.{PlainTemplate, template_of}
use Rattle.cedar_typing.specs.Evaluation.Conformance.{has_external}
use Rattle.cedar_typing.specs.Examples.Composition.{greets}
use Rattle.cedar_typing.specs.Examples.Expressions.{principal}
use Rattle.cedar_typing.specs.Examples.PolicySoundness.{sample_basis, policy_when, meeting_slots}
use Rattle.cedar_typing.specs.Examples.Promises.{true_policy, wrong_policy}
use Rattle.cedar_typing.specs.Examples.Rules.{bool_at}
use Rattle.cedar_typechecker.specs.declared.rbac.validator.Validator.{Validator}
use Rattle.cedar_typechecker.specs.Slices.Examples.{active_of}
use Rattle.cedar_typechecker.specs.Slices.Examples.World.{wiki_basis, staff_slots, reading}
use Rattle.cedar_conformance.specs.declared.entities.Entities.{Entities}
use Rattle.cedar_conformance.specs.declared.entity_faults.EntityFault.{EntityFault}
use Rattle.cedar_conformance.specs.declared.policies.PolicyFault.{PolicyFault}
use Rattle.cedar_conformance.specs.declared.premises.PremiseFault.{PremiseFault}
use Rattle.cedar_conformance.specs.declared.premises.PremiseFault.TheVariants as fault
use Rattle.cedar_conformance.specs.declared.requests.Request.{Request}
use Rattle.cedar_conformance.specs.declared.requests.RequestFault.{RequestFault}
use Rattle.cedar_conformance.specs.Premises.{IsWorldOfData, IsFirstUnmet}
use Rattle.cedar_host.specs.declared.admission.LinkedTemplate.{LinkedTemplate}
use Rattle.cedar_host.specs.declared.conditions.TypedCondition.{TypedCondition}
use Rattle.cedar_host.specs.declared.safety.SoundMode.{SoundMode}
use Rattle.cedar_host.specs.declared.slices.SliceReport.{SliceReport}
use Rattle.cedar_host.specs.Accepted.{template_in}
use Rattle.cedar_host.specs.Admission.{EvaluatesSafely, EvaluatesInSlices, AllEvaluateSafely}
use Rattle.cedar_host.specs.Conditions.{env_in, tree_in, MeansTheCondition, CoverRequests}
use Rattle.cedar_host.specs.Responses.{HaveSameResponses}

-- ---- evaluation

-- `permit(principal, action, resource) when { principal.active }`, and with `!principal.active`
abbrev pub if_active : PlainTemplate
if_active = policy_when (active_of principal)

abbrev pub unless_active : PlainTemplate
unless_active = policy_when (unary tt UnaryOp.Not (active_of principal))

pub record EvaluationExamples : Type 0 where
  -- a policy that is true keeps the promise, and one that goes wrong breaks it: over any data,
  -- whether or not it conforms
  pub safe : (request : Request) (entities : Entities)
      → EvaluatesSafely (sample_basis Strict) request entities true_policy meeting_slots
  pub wrong : (request : Request) (entities : Entities)
      → EvaluatesSafely (sample_basis Strict) request entities wrong_policy meeting_slots → ⊥
  -- a policy that needs an entity breaks the promise in slices of no steps: it is true over the
  -- data, and misses the entity in the slice
  pub in_slices : (request : Request) (entities : Entities) → IsWorldOfData request entities reading
      → EvaluatesInSlices (wiki_basis Strict) 0 request entities if_active staff_slots → ⊥
  -- several policies keep the promise, in each mode, only if all do, so one that goes wrong breaks
  -- it
  pub all : (meaning : Unit {0} → Refusals) (v : Validator (Unit {0})) (mode : SoundMode) (steps : ℕ) (p : LinkedTemplate)
      (request : Request) (entities : Entities) → template_in p ≡ wrong_policy
      → AllEvaluateSafely meaning (v, mode, steps, p ∷ []) request entities → ⊥

-- ---- responses

pub record ResponsePromises : Type 0 where
  -- a policy that is false over the store, and misses an entity in the slice: the decisions are
  -- equal, and the errors are not
  pub errors : (r : SliceReport) → r.report.is_accepted ≡ true → template_of r.report.policy.now.template ≡ unless_active
      → HaveSameResponses (wiki_basis Strict) 0 (r ∷ []) → ⊥

-- ---- typed conditions

pub record ConditionPromises : Type 0 where
  -- `false` does not mean the condition of a policy that is true
  pub means : (c : TypedCondition) → env_in c ≡ greets None None → tree_in c ≡ lit (bool_at 1) (bool false)
      → MeansTheCondition (sample_basis Strict) true_policy c → ⊥
  -- a condition of undeclared actions covers no request, whatever it means
  pub covers : (c : TypedCondition) → env_in c ≡ Undeclared
      → CoverRequests (sample_basis Strict) true_policy (c ∷ []) → ⊥

-- ---- the first premise that is not met

-- a premise that is never the first unmet one, if the schema has external declarations
abbrev pub IsNotFirst : PremiseFault → Type 0
IsNotFirst f =
    (schema : ValidatorSchema) (t : Template) (values : BTreeMap SlotId EntityUID) (request : Request) (entities : Entities)
    → has_external (schema_of schema) ≡ true → IsFirstUnmet f schema t values request entities → ⊥

pub record FirstUnmetExamples : Type 0 where
  pub policy : (f : PolicyFault) → IsNotFirst (fault.Policy f)
  pub request : (f : RequestFault) → IsNotFirst (fault.Request f)
  pub entities : (fs : Vec EntityFault Global) → IsNotFirst (fault.Entities fs)
