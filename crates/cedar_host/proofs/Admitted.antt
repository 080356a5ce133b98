-- Accepted policies over checked data.
use Rattle.std.proofs.Common.{◌≡◌, ◌↔◌, ◌∙◌, ℕ, false, All, Result, ap, get_or, refl, sym, subst}
use Rattle.std.specs.BTreeMap.{BTreeMap}
use Rattle.cedar_types.specs.Extensions.Functions.{Refusals}
use Rattle.cedar_types.specs.Schemas.Contents.{schema_of}
use Rattle.cedar_types.specs.Templates.{template_of}
use Rattle.cedar_types.specs.declared.base.names.entities.EntityUID.{EntityUID}
use Rattle.cedar_types.specs.declared.base.names.slots.SlotId.{SlotId}
use Rattle.cedar_types.specs.declared.base.schema.ValidatorSchema.{ValidatorSchema}
use Rattle.cedar_types.specs.declared.base.templates.Template.{Template}
use Rattle.cedar_typing.specs.Evaluation.Conformance.{ConformingRequest, has_external}
use Rattle.cedar_typing.specs.Soundness.Policies.{Basis, IsWellFormed}
use Rattle.cedar_conformance.specs.PolicyTests.{slots_of}
use Rattle.cedar_conformance.specs.Premises.{DataConforms, ArePremises}
use Rattle.cedar_conformance.specs.Requests.{request_of}
use Rattle.cedar_conformance.specs.declared.entities.Entities.{Entities}
use Rattle.cedar_conformance.specs.declared.requests.Request.{Request}
use Rattle.cedar_conformance.proofs.MetPremises.{closed_of, data_conforms, request_of_data}
use Rattle.cedar_host.specs.declared.admission.AdmissionFault.{AdmissionFault}
use Rattle.cedar_host.specs.declared.admission.LinkedTemplate.{LinkedTemplate}
use Rattle.cedar_host.specs.Accepted.{Accepted, AcceptsExactly, IsAdmissible, basis_by, policies_in, schema_by, steps_by, template_in}
use Rattle.cedar_host.specs.Admission.{EvaluatesInSlices, AllEvaluateSafely, AllEvaluateInSlices}
use Rattle.cedar_host.specs.CheckedStores.{IsChecked}
use Rattle.cedar_host.specs.Slices.{NeedsSliceAlone}

module _ {C : Type 0} (meaning : C → Refusals) (a : Accepted C) (request : Request) (entities : Entities)
    (closed : has_external (schema_of (schema_by a)) ≡ false) (conforming : DataConforms (schema_by a) request entities)
    (all : All (IsAdmissible (basis_by meaning a) (steps_by a)) (policies_in a)) where
  pub evaluate_in_slices : AllEvaluateInSlices meaning a request entities
  evaluate_in_slices k d l world w =
      let p : LinkedTemplate = get_or (policies_in a) k d in
      let fit : IsAdmissible (basis_by meaning a) (steps_by a) p = all k d l in
      fit.sliced closed world
      (subst (λ s. IsWellFormed (template_in p) s) (sym w.slots_bound) fit.well_formed)
      (conforming (basis_by meaning a) refl world w.of_data w.functions)

  pub evaluate_safely : AllEvaluateSafely meaning a request entities
  evaluate_safely k d l world w = (evaluate_in_slices k d l world w).safe

-- the promise for a single policy that needs only the slice
pub in_slices : (b : Basis) (steps : ℕ) (schema : ValidatorSchema) (template : Template)
    (values : BTreeMap SlotId EntityUID) (request : Request) (entities : Entities)
    → b.schema ≡ schema_of schema → NeedsSliceAlone b (template_of template) steps
    → ArePremises schema template values request entities
    → EvaluatesInSlices b steps request entities (template_of template) (slots_of values)
in_slices b steps schema template values request entities same need met world w =
    need (ap has_external same ∙ closed_of schema met.closed) world
    (subst (λ s. IsWellFormed (template_of template) s) (sym w.slots_bound) met.well_formed)
    (met.conforming b same world w.of_data w.functions)

-- ---- over a store that was checked

-- P lets a request in over the store
module _ {C : Type 0} (meaning : C → Refusals) (request : Request) (P : Type 0) where
  abbrev pub LetsIn : Accepted C × Entities → Type 0
  LetsIn s =
      (P ↔ DataConforms (schema_by s.0) request s.1)
      × (P → AllEvaluateSafely meaning s.0 request s.1)
      × (P → AllEvaluateInSlices meaning s.0 request s.1)

  abbrev ConformsTo : ValidatorSchema → Type 0
  ConformsTo schema = ConformingRequest (schema_of schema) (request_of request)

  module _ (held : Accepted C) (stored : Entities) (checked : IsChecked (schema_by held) stored)
      (all : All (IsAdmissible (basis_by meaning held) (steps_by held)) (policies_in held)) (schema : ValidatorSchema)
      (same : schema ≡ schema_by held) (decided : P ↔ ConformsTo schema) where
    conforms : P → DataConforms (schema_by held) request stored
    conforms p = data_conforms (schema_by held) request stored (subst ConformsTo same (decided.0 p)) checked.conforming

    of_held : LetsIn (held, stored)
    of_held = (
      (conforms, λ d. decided.1 (subst ConformsTo (sym same) (request_of_data (schema_by held) request stored d))),
      λ p. evaluate_safely meaning held request stored checked.closed (conforms p) all,
      λ p. evaluate_in_slices meaning held request stored checked.closed (conforms p) all,
    )

    pub over_checked : (s : Accepted C × Entities) → (held, stored) ≡ s → LetsIn s
    over_checked s is = subst LetsIn is of_held

-- ---- the answer on one policy more

pub answered_by : {C : Type 0} (meaning : C → Refusals) (p : LinkedTemplate) (answer : Result (Unit {0}) AdmissionFault)
    (held a : Accepted C) → held ≡ a → AcceptsExactly (basis_by meaning held) (steps_by held) p answer
    → AcceptsExactly (basis_by meaning a) (steps_by a) p answer
answered_by meaning p answer held a is h =
    subst (λ x. AcceptsExactly (basis_by meaning x) (steps_by x) p answer) is h
