-- Stores that were checked.
use Rattle.std.specs.Prelude.{◌≡◌, true, false}
use Rattle.cedar_types.specs.declared.base.schema.ValidatorSchema.{ValidatorSchema}
use Rattle.cedar_types.specs.Schemas.Contents.{schema_of}
use Rattle.cedar_types.specs.Values.Stores.{ConformingStore}
use Rattle.cedar_typing.specs.Evaluation.Conformance.{has_external}
use Rattle.cedar_conformance.specs.declared.entities.Entities.{Entities}
use Rattle.cedar_conformance.specs.Entities.{store_of}
use Rattle.cedar_conformance.specs.Premises.{AreFaultsOf}
use Rattle.cedar_conformance.specs.declared.premises.PremiseFault.{PremiseFault}
use Rattle.cedar_conformance.specs.declared.premises.PremiseFault.TheVariants as premise

-- no part of the schema is declared elsewhere, and the entities conform to it
pub record IsChecked (schema : ValidatorSchema) (entities : Entities) : Type 0 where
  pub closed : has_external (schema_of schema) ≡ false
  pub conforming : ConformingStore (schema_of schema) (store_of entities)

-- the first of these premises that is not met
abbrev pub IsFirstNotChecked : PremiseFault → ValidatorSchema → Entities → Type 0
IsFirstNotChecked premise.External schema entities = has_external (schema_of schema) ≡ true
IsFirstNotChecked (premise.Policy f) schema entities = ⊥
IsFirstNotChecked (premise.Request f) schema entities = ⊥
IsFirstNotChecked (premise.Entities fs) schema entities =
    (has_external (schema_of schema) ≡ false) × AreFaultsOf fs schema entities
