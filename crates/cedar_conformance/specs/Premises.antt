-- The premises that a host owes to the promises, on its own data.
use Rattle.std.specs.Prelude.{◌≡◌, true, false, Some}
use Rattle.std.specs.BTreeMap.{BTreeMap}
use Rattle.std.specs.declared.alloc.Global.{Global}
use Rattle.std.specs.declared.vec.Vec.{Vec}
use Rattle.cedar_types.specs.Schemas.Contents.{schema_of}
use Rattle.cedar_types.specs.Templates.{template_of}
use Rattle.cedar_types.specs.declared.base.names.entities.EntityUID.{EntityUID}
use Rattle.cedar_types.specs.declared.base.names.slots.SlotId.{SlotId}
use Rattle.cedar_types.specs.declared.base.schema.ValidatorSchema.{ValidatorSchema}
use Rattle.cedar_types.specs.declared.base.templates.Template.{Template}
use Rattle.cedar_types.specs.Values.Stores.{ConformingStore}
use Rattle.cedar_typing.specs.Evaluation.Conformance.{ConformingRequest, KeepsTable, has_external}
use Rattle.cedar_typing.specs.Evaluation.World.{World}
use Rattle.cedar_typing.specs.Modes.{IsSoundMode}
use Rattle.cedar_typing.specs.Soundness.Policies.{Basis, IsSoundAndClosed, IsWellFormed, IsConforming}
use Rattle.cedar_conformance.specs.Answers.{lists_none}
use Rattle.cedar_conformance.specs.Entities.{store_of}
use Rattle.cedar_conformance.specs.EntityFaults.{all_there}
use Rattle.cedar_conformance.specs.PolicyTests.{policy_fault, slots_of}
use Rattle.cedar_conformance.specs.RequestFaults.{request_has}
use Rattle.cedar_conformance.specs.Requests.{request_of}
use Rattle.cedar_conformance.specs.declared.entities.Entities.{Entities}
use Rattle.cedar_conformance.specs.declared.entity_faults.EntityFault.{EntityFault}
use Rattle.cedar_conformance.specs.declared.premises.PremiseFault.{PremiseFault}
use Rattle.cedar_conformance.specs.declared.premises.PremiseFault.TheVariants as fault
use Rattle.cedar_conformance.specs.declared.requests.Request.{Request}

-- the world has this request and these entities
pub record IsWorldOfData (r : Request) (es : Entities) (world : World) : Type 0 where
  pub request : world.request ≡ request_of r
  pub store : world.store ≡ store_of es

-- a world of the data conforms by the schema, if its extension functions keep the table
abbrev pub DataConforms : ValidatorSchema → Request → Entities → Type 0
DataConforms schema request entities =
    (b : Basis) → b.schema ≡ schema_of schema
    → (world : World) → IsWorldOfData request entities world → KeepsTable b.table world.functions
    → IsConforming b world

-- the schema is closed, in each sound mode and with any extension functions
abbrev pub SchemaIsClosed : ValidatorSchema → Type 0
SchemaIsClosed schema =
    (b : Basis) → b.schema ≡ schema_of schema → IsSoundMode b.mode → IsSoundAndClosed b

-- the premises of the promises on a host's data, except that the extension functions keep their
-- table
pub record ArePremises (schema : ValidatorSchema) (template : Template)
    (values : BTreeMap SlotId EntityUID) (request : Request) (entities : Entities) : Type 0 where
  pub closed : SchemaIsClosed schema
  pub well_formed : IsWellFormed (template_of template) (slots_of values)
  pub conforming : DataConforms schema request entities

-- ---- the first premise that is not met

-- the entities do not conform, some faults are listed, and they have each of these
pub record AreFaultsOf (fs : Vec EntityFault Global) (schema : ValidatorSchema) (entities : Entities) : Type 0 where
  pub unfit : ConformingStore (schema_of schema) (store_of entities) → ⊥
  pub some : lists_none fs.items ≡ false
  pub there : all_there (schema_of schema) (store_of entities) fs.items ≡ true

-- the first fault of the request and the entities: the request does not conform, and this is its
-- fault; or it does, and the entities do not, and each of these faults is one that they have
abbrev pub IsFirstOfData : PremiseFault → ValidatorSchema → Request → Entities → Type 0
IsFirstOfData fault.External schema request entities = ⊥
IsFirstOfData (fault.Policy f) schema request entities = ⊥
IsFirstOfData (fault.Request f) schema request entities =
    (ConformingRequest (schema_of schema) (request_of request) → ⊥)
    × (request_has (schema_of schema) (request_of request) f ≡ true)
IsFirstOfData (fault.Entities fs) schema request entities =
    ConformingRequest (schema_of schema) (request_of request) × AreFaultsOf fs schema entities

-- the first fault of all: the schema is not closed; or it is, and the policy with its links is not
-- well-formed, and this is its fault; or it is too, and the request or the entities do not conform
abbrev pub IsFirstUnmet : PremiseFault → ValidatorSchema → Template → BTreeMap SlotId EntityUID
    → Request → Entities → Type 0
IsFirstUnmet fault.External schema template values request entities =
    has_external (schema_of schema) ≡ true
IsFirstUnmet (fault.Policy f) schema template values request entities =
    (has_external (schema_of schema) ≡ false)
    × (IsWellFormed (template_of template) (slots_of values) → ⊥)
    × (policy_fault (template_of template) (slots_of values) ≡ Some f)
IsFirstUnmet (fault.Request f) schema template values request entities =
    (has_external (schema_of schema) ≡ false)
    × IsWellFormed (template_of template) (slots_of values)
    × IsFirstOfData (fault.Request f) schema request entities
IsFirstUnmet (fault.Entities fs) schema template values request entities =
    (has_external (schema_of schema) ≡ false)
    × IsWellFormed (template_of template) (slots_of values)
    × IsFirstOfData (fault.Entities fs) schema request entities
