-- First faults of refused policies.
use Rattle.std.proofs.Common.{◌≡◌, true, false, subst}
use Rattle.cedar_types.specs.Schemas.Contents.{schema_of}
use Rattle.cedar_types.specs.declared.base.schema.ValidatorSchema.{ValidatorSchema}
use Rattle.cedar_typing.specs.Evaluation.Conformance.{has_external}
use Rattle.cedar_conformance.specs.Premises.{IsFirstOfData, IsFirstUnmet}
use Rattle.cedar_conformance.specs.declared.entities.Entities.{Entities}
use Rattle.cedar_conformance.specs.declared.premises.PremiseFault.{PremiseFault}
use Rattle.cedar_conformance.specs.declared.premises.PremiseFault.TheVariants as premise
use Rattle.cedar_conformance.specs.declared.requests.Request.{Request}
use Rattle.cedar_host.specs.declared.admission.AdmissionFault.{AdmissionFault}
use Rattle.cedar_host.specs.declared.admission.AdmissionFault.TheVariants as fault
use Rattle.cedar_host.specs.declared.admission.LinkedTemplate.{LinkedTemplate}
use Rattle.cedar_host.specs.declared.policy_sets.Findings.{Findings}
use Rattle.cedar_host.specs.Accepted.{IsFaultOfForm, IsFirstFaultOf}
use Rattle.cedar_host.specs.Admission.{IsFirstNotAdmitted, IsFirstPremise, IsFirstRefusal}

-- if the schema is closed, the first fault of the data is the first of both
pub first_of_closed : (schema : ValidatorSchema) (request : Request) (entities : Entities)
    → has_external (schema_of schema) ≡ false → (f : PremiseFault) → IsFirstOfData f schema request entities
    → IsFirstNotAdmitted f schema request entities
first_of_closed schema request entities closed premise.External h = absurd h
first_of_closed schema request entities closed (premise.Policy p) h = absurd h
first_of_closed schema request entities closed (premise.Request r) h = (closed, h)
first_of_closed schema request entities closed (premise.Entities es) h = (closed, h)

-- if validation accepts the policy, the first fault of its form and its links is the first
pub first_of_form : (found : Findings) (p : LinkedTemplate) → found.is_accepted ≡ true → (f : AdmissionFault)
    → IsFaultOfForm f p → IsFirstFaultOf f found p
first_of_form found p accepted (fault.NotAccepted id) h = absurd h
first_of_form found p accepted (fault.Policy id f) h = (accepted, h)
first_of_form found p accepted (fault.Premise f) h = absurd h

-- if validation accepts the policy, the first premise that is not met is the first fault
pub first_of_premises : (found : Findings) (schema : ValidatorSchema) (p : LinkedTemplate) (request : Request)
    (entities : Entities) (held : ValidatorSchema) → found.is_accepted ≡ true → held ≡ schema → (f : AdmissionFault)
    → IsFirstPremise f held p request entities → IsFirstRefusal f found schema p request entities
first_of_premises found schema p request entities held accepted same (fault.NotAccepted id) h = absurd h
first_of_premises found schema p request entities held accepted same (fault.Policy id f) h = absurd h
first_of_premises found schema p request entities held accepted same (fault.Premise f) h = (
  accepted,
  subst (λ s. IsFirstUnmet f s p.template.now p.values.now request entities) same h,
)
