use Rattle.std.proofs.Common.{◌∙◌, refl, sym, ap, subst, true≢false}
use Rattle.cedar_types.specs.declared.base.schema.ValidatorSchema.{ValidatorSchema}
use Rattle.cedar_types.specs.Schemas.Contents.{schema_of}
use Rattle.cedar_types.specs.Values.Stores.{ConformingStore}
use Rattle.cedar_typing.specs.Evaluation.Conformance.{has_external}
use Rattle.cedar_conformance.specs.Entities.{store_of}
use Rattle.cedar_conformance.specs.Premises.{AreFaultsOf}
use Rattle.cedar_conformance.proofs.MetPremises.{met, unmet, refused, fault_of}
use Rattle.cedar_host.specs.Accepted.{schema_by}
use Rattle.cedar_host.proofs.checked.check_closed_store.Goals as goal

pub returns-then-is_external : goal.returns-then-is_external
returns-then-is_external g c =
    let same = ap (λ (s : ValidatorSchema). has_external (schema_of s)) c.schema-schema.ensures in
    let external = sym same ∙ (sym c.in_ok-is_external.ensures ∙ c.if-is_external.true) in
    record { exact = refused (λ a. true≢false (sym external ∙ a.closed)); first = external }

pub returns-in-Ok-clause-exact : goal.returns-in-Ok-clause-exact
returns-in-Ok-clause-exact g c =
    let same = ap (λ (s : ValidatorSchema). has_external (schema_of s)) c.schema-schema.ensures in
    let closed = sym same ∙ (sym c.in_ok-is_external.ensures ∙ c.if-is_external.false) in
    let Conforms : ValidatorSchema → Type 0 = λ s. ConformingStore (schema_of s) (store_of c.args.entities.now) in
    let yes = met _ _ c.in-Ok.is c.in_ok-check_entities.ensures.exact in
    (λ ok. record { closed = closed; conforming = subst Conforms c.schema-schema.ensures yes }, λ a. refl)

pub returns-in-Err : goal.returns-in-Err
returns-in-Err g c =
    let same = ap (λ (s : ValidatorSchema). has_external (schema_of s)) c.schema-schema.ensures in
    let closed = sym same ∙ (sym c.in_ok-is_external.ensures ∙ c.if-is_external.false) in
    let no = unmet _ _ c.in-Err.is c.in_ok-check_entities.ensures.exact in
    let listed : AreFaultsOf c.in-Err.faults c.schema-schema.result.now c.args.entities.now = record {
      unfit = no;
      some = fault_of _ _ _ c.in-Err.is c.in_ok-check_entities.ensures.some;
      there = fault_of _ _ _ c.in-Err.is c.in_ok-check_entities.ensures.there;
    } in
    let faults = subst (λ s. AreFaultsOf c.in-Err.faults s c.args.entities.now) c.schema-schema.ensures listed in
    record { exact = refused (λ a. faults.unfit a.conforming); first = (closed, faults) }
