-- Premises together, from the checks of each and back.
use Rattle.std.proofs.Common.{◌≡◌, ◌↔◌, ◌∙◌, refl, sym, ap, subst, true, false, true≢false, [], None, is_some}
use Rattle.std.proofs.Common.{Result, Ok, Err, IsOk, IfErr}
use Rattle.std.specs.BTreeMap.{BTreeMap}
use Rattle.cedar_types.specs.Extensions.{ExtensionTable}
use Rattle.cedar_types.specs.Schemas.Contents.{schema_of}
use Rattle.cedar_types.specs.Schemas.{Schema}
use Rattle.cedar_types.specs.Templates.{template_of}
use Rattle.cedar_types.specs.Values.Stores.{ConformingStore}
use Rattle.cedar_types.specs.declared.base.names.entities.EntityUID.{EntityUID}
use Rattle.cedar_types.specs.declared.base.names.slots.SlotId.{SlotId}
use Rattle.cedar_types.specs.declared.base.schema.ValidatorSchema.{ValidatorSchema}
use Rattle.cedar_types.specs.declared.base.templates.Template.{Template}
use Rattle.cedar_types.specs.declared.base.types.ValidationMode.TheVariants.{Strict}
use Rattle.cedar_typing.specs.Evaluation.Conformance.{ConformingRequest, KeepsTable, has_external}
use Rattle.cedar_typing.specs.Evaluation.World.{World, Interpretation}
use Rattle.cedar_typing.specs.Soundness.Policies.{Basis, IsWellFormed, IsConforming}
use Rattle.cedar_conformance.specs.Entities.{store_of}
use Rattle.cedar_conformance.specs.PolicyTests.{slots_of}
use Rattle.cedar_conformance.specs.Premises.{DataConforms, SchemaIsClosed, ArePremises, IsFirstOfData, IsFirstUnmet}
use Rattle.cedar_conformance.specs.Requests.{request_of}
use Rattle.cedar_conformance.specs.declared.entities.Entities.{Entities}
use Rattle.cedar_conformance.specs.declared.premises.PremiseFault.{PremiseFault}
use Rattle.cedar_conformance.specs.declared.premises.PremiseFault.TheVariants as fault
use Rattle.cedar_conformance.specs.declared.requests.Request.{Request}

-- ---- the answers of a check

-- if the check answers a fault, the property that it decides does not hold
pub unmet : {A E P : Type 0} (r : Result A E) (e : E) → r ≡ Err e → IsOk r ↔ P → P → ⊥
unmet r e is h p = absurd (true≢false (sym (subst (λ x. IsOk x) is (h.1 p))))

-- if the check answers Ok, the property that it decides holds
pub met : {A E P : Type 0} (r : Result A E) (x : A) → r ≡ Ok x → IsOk r ↔ P → P
met r x is h = h.0 (subst (λ y. IsOk y) (sym is) refl)

-- the fault of the answer has each property that all faults of the answer have
pub fault_of : {A E : Type 0} (P : E → Type 0) (r : Result A E) (e : E) → r ≡ Err e → IfErr r P → P e
fault_of P r e is h = subst (λ x. IfErr x P) is h

-- a property that does not hold is decided by a refusal
pub refused : {P : Type 0} → (P → ⊥) → (false ≡ true) ↔ P
refused unfit = (λ ok. absurd (true≢false (sym ok)), λ p. absurd (unfit p))

-- ---- the request and the entities

-- a table without functions; functions that give nothing and compare nothing keep it
abbrev no_functions : ExtensionTable
no_functions = record { functions = []; overloaded_types = [] }

abbrev gives_nothing : Interpretation
gives_nothing = record { calls = []; overloaded_types = []; less = []; less_or_equal = [] }

keeps_none : KeepsTable no_functions gives_nothing
keeps_none = record {
  returns = λ n f named vs v given. absurd (true≢false (sym (ap is_some given)));
  overloaded_types = λ p. refl;
}

abbrev basis_on : Schema → Basis
basis_on s = record { schema = s; mode = Strict; table = no_functions }

abbrev world_of : Request → Entities → World
world_of request entities = record {
  request = request_of request;
  slots = λ s. None;
  store = store_of entities;
  functions = gives_nothing;
}

module _ (schema : ValidatorSchema) (request : Request) (entities : Entities) where
  abbrev RequestConforms : Type 0
  RequestConforms = ConformingRequest (schema_of schema) (request_of request)

  abbrev EntitiesConform : Type 0
  EntitiesConform = ConformingStore (schema_of schema) (store_of entities)

  pub data_conforms : RequestConforms → EntitiesConform → DataConforms schema request entities
  data_conforms r s b same world w keeps = record {
    request =
        subst (λ x. ConformingRequest x world.request) (sym same)
        (subst (ConformingRequest (schema_of schema)) (sym w.request) r);
    store =
        subst (λ x. ConformingStore x world.store) (sym same)
        (subst (ConformingStore (schema_of schema)) (sym w.store) s);
    functions = keeps;
  }

  conforming : DataConforms schema request entities
      → IsConforming (basis_on (schema_of schema)) (world_of request entities)
  conforming d =
      d (basis_on (schema_of schema)) refl (world_of request entities) (record { request = refl; store = refl }) keeps_none

  pub request_of_data : DataConforms schema request entities → RequestConforms
  request_of_data d = (conforming d).request

  pub entities_of_data : DataConforms schema request entities → EntitiesConform
  entities_of_data d = (conforming d).store

  -- if the request conforms, the entities decide
  pub data_decided : {A E : Type 0} (r : Result A E) → RequestConforms → IsOk r ↔ EntitiesConform
      → IsOk r ↔ DataConforms schema request entities
  data_decided r of_request h = (λ ok. data_conforms of_request (h.0 ok), λ d. h.1 (entities_of_data d))

-- ---- all of them

pub is_closed : (schema : ValidatorSchema) → has_external (schema_of schema) ≡ false → SchemaIsClosed schema
is_closed schema closed b same mode = record { mode = mode; closed = ap has_external same ∙ closed }

pub closed_of : (schema : ValidatorSchema) → SchemaIsClosed schema → has_external (schema_of schema) ≡ false
closed_of schema c = (c (basis_on (schema_of schema)) refl refl).closed

pub not_closed : (schema : ValidatorSchema) → has_external (schema_of schema) ≡ true → SchemaIsClosed schema → ⊥
not_closed schema external c = true≢false (sym external ∙ closed_of schema c)

module _ (schema : ValidatorSchema) (template : Template) (values : BTreeMap SlotId EntityUID)
    (request : Request) (entities : Entities) where
  -- if nothing of the schema is external and the policy is well-formed, the data decides
  pub all_decided : {A E : Type 0} (r : Result A E) → has_external (schema_of schema) ≡ false
      → IsWellFormed (template_of template) (slots_of values) → IsOk r ↔ DataConforms schema request entities
      → IsOk r ↔ ArePremises schema template values request entities
  all_decided r closed formed h = (
    λ ok. record { closed = is_closed schema closed; well_formed = formed; conforming = h.0 ok },
    λ p. h.1 p.conforming,
  )

  -- the first fault of the data is the first of all, if the schema is closed and the policy
  -- well-formed
  pub first_behind : (f : PremiseFault) → has_external (schema_of schema) ≡ false
      → IsWellFormed (template_of template) (slots_of values) → IsFirstOfData f schema request entities
      → IsFirstUnmet f schema template values request entities
  first_behind fault.External closed formed h = absurd h
  first_behind (fault.Policy p) closed formed h = absurd h
  first_behind (fault.Request r) closed formed h = (closed, formed, h)
  first_behind (fault.Entities es) closed formed h = (closed, formed, h)
