-- Policies that one validator accepts, each with the entities to which its slots are bound.
use Rattle.std.specs.Prelude.{◌≡◌, ◌↔◌, ℕ, true, false, List, [], ◌∷◌, ◌++◌, Some, Result, IsOk, IfErr}
use Rattle.cedar_types.specs.declared.base.names.policy_ids.PolicyID.{PolicyID}
use Rattle.cedar_types.specs.declared.base.schema.ValidatorSchema.{ValidatorSchema}
use Rattle.cedar_types.specs.Extensions.Functions.{Refusals}
use Rattle.cedar_types.specs.Names.{text_of}
use Rattle.cedar_types.specs.Templates.{PlainTemplate, template_of}
use Rattle.cedar_typechecker.specs.declared.rbac.validator.Validator.{Validator}
use Rattle.cedar_typechecker.specs.ValidatorViews.{schema_in}
use Rattle.cedar_typing.specs.Evaluation.World.{Slots}
use Rattle.cedar_typing.specs.Soundness.Policies.{Basis, IsWellFormed}
use Rattle.cedar_conformance.specs.PolicyTests.{slots_of, policy_fault}
use Rattle.cedar_host.specs.declared.admission.AdmissionFault.{AdmissionFault}
use Rattle.cedar_host.specs.declared.admission.AdmissionFault.TheVariants as fault
use Rattle.cedar_host.specs.declared.admission.LinkedTemplate.{LinkedTemplate}
use Rattle.cedar_host.specs.declared.policy_sets.Findings.{Findings}
use Rattle.cedar_host.specs.declared.safety.SoundMode.{SoundMode}
use Rattle.cedar_host.specs.Found.{AreFindingsWithin}
use Rattle.cedar_host.specs.Safety.{sound_basis, PassesEverywhere}
use Rattle.cedar_host.specs.Slices.{NeedsSliceAlone}

-- ---- a single policy

abbrev pub template_in : LinkedTemplate → PlainTemplate
template_in p = template_of p.template.now

abbrev pub slots_in : LinkedTemplate → Slots
slots_in p = slots_of p.values.now

-- the policy's checks pass, it needs only the slice of this many steps of a store, and it is well-formed with its links
pub record IsAdmissible (b : Basis) (steps : ℕ) (p : LinkedTemplate) : Type 0 where
  pub checked : PassesEverywhere b (template_in p)
  pub sliced : NeedsSliceAlone b (template_in p) steps
  pub well_formed : IsWellFormed (template_in p) (slots_in p)

-- the policy has this id
abbrev pub IsIdOf : PolicyID → LinkedTemplate → Type 0
IsIdOf id p = text_of id.text ≡ text_of p.template.now.id.text

-- the first fault of the policy's form and its links
abbrev pub IsFaultOfForm : AdmissionFault → LinkedTemplate → Type 0
IsFaultOfForm (fault.NotAccepted id) p = ⊥
IsFaultOfForm (fault.Policy id f) p = IsIdOf id p × (policy_fault (template_in p) (slots_in p) ≡ Some f)
IsFaultOfForm (fault.Premise f) p = ⊥

-- the first fault of the policy: validation refuses it; or validation accepts it, and its form or its links have this
-- first fault
abbrev pub IsFirstFaultOf : AdmissionFault → Findings → LinkedTemplate → Type 0
IsFirstFaultOf (fault.NotAccepted id) found p = (found.is_accepted ≡ false) × IsIdOf id p
IsFirstFaultOf (fault.Policy id f) found p = (found.is_accepted ≡ true) × IsFaultOfForm (fault.Policy id f) p
IsFirstFaultOf (fault.Premise f) found p = ⊥

-- the answer is Ok exactly if the findings for slices accept the policy and it is well-formed with its links; else the
-- answer is its first fault
pub record AcceptsExactly (b : Basis) (steps : ℕ) (p : LinkedTemplate) (answer : Result (Unit {0}) AdmissionFault)
    : Type 0 where
  pub found : Findings
  pub findings : AreFindingsWithin steps b (template_in p) found
  pub exact : IsOk answer ↔ ((found.is_accepted ≡ true) × IsWellFormed (template_in p) (slots_in p))
  pub first : IfErr answer (λ f. IsFirstFaultOf f found p)

-- ---- all policies

-- the validator that accepted the policies, its mode, the steps of their slices, and the policies
abbrev pub Accepted : Type 0 → Type 0
Accepted C = Validator C × SoundMode × ℕ × List LinkedTemplate

module _ {C : Type 0} where
  abbrev pub schema_by : Accepted C → ValidatorSchema
  schema_by a = schema_in a.0

  abbrev pub basis_by : (C → Refusals) → Accepted C → Basis
  basis_by meaning a = sound_basis a.1 meaning a.0

  abbrev pub steps_by : Accepted C → ℕ
  steps_by a = a.2

  abbrev pub policies_in : Accepted C → List LinkedTemplate
  policies_in a = a.3

  -- one policy more behind the others
  abbrev pub with_policy : Accepted C → LinkedTemplate → Accepted C
  with_policy a p = (a.0, a.1, a.2, a.3 ++ p ∷ [])
