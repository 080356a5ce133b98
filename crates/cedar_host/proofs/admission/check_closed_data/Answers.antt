use Rattle.std.proofs.Common.{◌∙◌, sym, true≢false}
use Rattle.std.proofs.lemmas.Result.{IfErr-weaker}
use Rattle.cedar_conformance.proofs.MetPremises.{refused}
use Rattle.cedar_conformance.specs.Premises.{IsFirstOfData}
use Rattle.cedar_host.specs.Admission.{IsFirstNotAdmitted}
use Rattle.cedar_host.proofs.Refused.{first_of_closed}
use Rattle.cedar_host.proofs.admission.check_closed_data.Goals as goal

pub returns-then-is_external : goal.returns-then-is_external
returns-then-is_external c =
    let external = sym c.in_ok-is_external.ensures ∙ c.if-is_external.true in
    record { exact = refused (λ a. true≢false (sym external ∙ a.closed)); first = external }

pub returns : goal.returns
returns c =
    let closed = sym c.in_ok-is_external.ensures ∙ c.if-is_external.false in
    let schema = c.args.schema.now in
    let request = c.args.request.now in
    let entities = c.args.entities.now in
    let rest = c.in_ok-checked.ensures in
    record {
      exact = (λ ok. record { closed = closed; conforming = rest.exact.0 ok }, λ a. rest.exact.1 a.conforming);
      first =
          IfErr-weaker c.in_ok-checked.checked (λ f. IsFirstOfData f schema request entities)
          (λ f. IsFirstNotAdmitted f schema request entities)
          (first_of_closed schema request entities closed) rest.first;
    }
