-- The promise of accepted policies over checked data. The only remaining premise is that the extension functions keep the
-- table: none is left on the schema, the policies, the request and the entities.
use Rattle.std.specs.Prelude.{◌≡◌, ◌↔◌, ℕ, true, false, All, Result, IsOk, IfErr}
use Rattle.cedar_types.specs.Extensions.Functions.{Refusals}
use Rattle.cedar_types.specs.Schemas.Contents.{schema_of}
use Rattle.cedar_types.specs.Templates.{PlainTemplate, condition_of}
use Rattle.cedar_types.specs.declared.base.schema.ValidatorSchema.{ValidatorSchema}
use Rattle.cedar_typechecker.specs.Slices.Validation.{IsKeptInSlices}
use Rattle.cedar_typing.specs.Evaluation.Conformance.{KeepsTable, has_external}
use Rattle.cedar_typing.specs.Evaluation.Eval.{eval}
use Rattle.cedar_typing.specs.Evaluation.World.{Slots, World}
use Rattle.cedar_typing.specs.Soundness.Policies.{Basis}
use Rattle.cedar_typing.specs.Soundness.PolicyCheck.{IsBooleanOrAllowed}
use Rattle.cedar_conformance.specs.Premises.{IsWorldOfData, ArePremises, DataConforms, IsFirstOfData, IsFirstUnmet}
use Rattle.cedar_conformance.specs.declared.entities.Entities.{Entities}
use Rattle.cedar_conformance.specs.declared.premises.PremiseFault.{PremiseFault}
use Rattle.cedar_conformance.specs.declared.premises.PremiseFault.TheVariants as premise
use Rattle.cedar_conformance.specs.declared.requests.Request.{Request}
use Rattle.cedar_host.specs.declared.admission.AdmissionFault.{AdmissionFault}
use Rattle.cedar_host.specs.declared.admission.AdmissionFault.TheVariants as fault
use Rattle.cedar_host.specs.declared.admission.LinkedTemplate.{LinkedTemplate}
use Rattle.cedar_host.specs.declared.policy_sets.Findings.{Findings}
use Rattle.cedar_host.specs.Accepted.{Accepted, IsIdOf, basis_by, policies_in, slots_in, steps_by, template_in}
use Rattle.cedar_host.specs.Found.{AreFindingsWithin}

-- ---- a single policy

-- a world in which the policy may be evaluated: it has this request and these entities, its slots are bound so, and its
-- extension functions keep the table
pub record IsWorldOfPolicy (b : Basis) (request : Request) (entities : Entities) (slots : Slots)
    (world : World) : Type 0 where
  pub of_data : IsWorldOfData request entities world
  pub slots_bound : world.slots ≡ slots
  pub functions : KeepsTable b.table world.functions

-- evaluation in such a world gives a boolean, or fails only for a missing entity, an overflow or an extension function
abbrev pub EvaluatesSafely : Basis → Request → Entities → PlainTemplate → Slots → Type 0
EvaluatesSafely b request entities t slots =
    (world : World) → IsWorldOfPolicy b request entities slots world
    → IsBooleanOrAllowed (eval world (condition_of t))

-- evaluation gives the same result in each part of the store that has the slice of this many steps
abbrev pub EvaluatesInSlices : Basis → ℕ → Request → Entities → PlainTemplate → Slots → Type 0
EvaluatesInSlices b steps request entities t slots =
    (world : World) → IsWorldOfPolicy b request entities slots world → IsKeptInSlices t steps world

-- ---- a policy that is validated at once

-- the first premise of the policy that is not met
abbrev pub IsFirstPremise : AdmissionFault → ValidatorSchema → LinkedTemplate → Request → Entities → Type 0
IsFirstPremise (fault.NotAccepted id) schema p request entities = ⊥
IsFirstPremise (fault.Policy id f) schema p request entities = ⊥
IsFirstPremise (fault.Premise f) schema p request entities =
    IsFirstUnmet f schema p.template.now p.values.now request entities

-- the first fault of the policy: validation refuses it; or validation accepts it, and this is the first premise that is
-- not met
abbrev pub IsFirstRefusal : AdmissionFault → Findings → ValidatorSchema → LinkedTemplate → Request → Entities → Type 0
IsFirstRefusal (fault.NotAccepted id) found schema p request entities = (found.is_accepted ≡ false) × IsIdOf id p
IsFirstRefusal (fault.Policy id f) found schema p request entities = ⊥
IsFirstRefusal (fault.Premise f) found schema p request entities =
    (found.is_accepted ≡ true) × IsFirstPremise (fault.Premise f) schema p request entities

-- the answer is Ok exactly if the findings for slices accept the policy and the premises are met; else the answer is the
-- first fault
pub record LetsInExactly (b : Basis) (steps : ℕ) (schema : ValidatorSchema) (p : LinkedTemplate) (request : Request)
    (entities : Entities) (answer : Result (Unit {0}) AdmissionFault) : Type 0 where
  pub found : Findings
  pub findings : AreFindingsWithin steps b (template_in p) found
  pub exact : IsOk answer
      ↔ ((found.is_accepted ≡ true) × ArePremises schema p.template.now p.values.now request entities)
  pub first : IfErr answer (λ f. IsFirstRefusal f found schema p request entities)

-- ---- policies that are accepted

-- the schema is closed, and the data conforms
pub record IsAdmitted (schema : ValidatorSchema) (request : Request) (entities : Entities) : Type 0 where
  pub closed : has_external (schema_of schema) ≡ false
  pub conforming : DataConforms schema request entities

-- the first of these premises that is not met
abbrev pub IsFirstNotAdmitted : PremiseFault → ValidatorSchema → Request → Entities → Type 0
IsFirstNotAdmitted premise.External schema request entities = has_external (schema_of schema) ≡ true
IsFirstNotAdmitted (premise.Policy f) schema request entities = ⊥
IsFirstNotAdmitted (premise.Request f) schema request entities =
    (has_external (schema_of schema) ≡ false) × IsFirstOfData (premise.Request f) schema request entities
IsFirstNotAdmitted (premise.Entities fs) schema request entities =
    (has_external (schema_of schema) ≡ false) × IsFirstOfData (premise.Entities fs) schema request entities

module _ {C : Type 0} (meaning : C → Refusals) where
  -- each policy evaluates safely, by the validator that accepted it, in its mode
  abbrev pub AllEvaluateSafely : Accepted C → Request → Entities → Type 0
  AllEvaluateSafely a request entities =
      All (λ p. EvaluatesSafely (basis_by meaning a) request entities (template_in p) (slots_in p)) (policies_in a)

  -- each policy evaluates in slices of the accepted number of steps
  abbrev pub AllEvaluateInSlices : Accepted C → Request → Entities → Type 0
  AllEvaluateInSlices a request entities =
      All (λ p. EvaluatesInSlices (basis_by meaning a) (steps_by a) request entities (template_in p) (slots_in p))
      (policies_in a)
