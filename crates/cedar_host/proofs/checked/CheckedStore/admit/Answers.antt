use Rattle.std.proofs.Common.{◌≡◌, ◌∙◌, true, ap, subst, IfErr}
use Rattle.cedar_types.specs.Schemas.Contents.{schema_of}
use Rattle.cedar_types.specs.declared.base.schema.ValidatorSchema.{ValidatorSchema}
use Rattle.cedar_conformance.specs.RequestFaults.{request_has}
use Rattle.cedar_conformance.specs.Requests.{request_of}
use Rattle.cedar_host.specs.Accepted.{schema_by}
use Rattle.cedar_host.proofs.Admitted.{over_checked}
use Rattle.cedar_host.proofs.checked.CheckedStore.admit.Goals as goal

pub returns : goal.returns
returns g c =
    let store = c.self.inside in
    let it =
    over_checked g.C.ArgumentCheck.refusal c.args.request.now _ store.policies.now store.entities.now c.self.invariant
    c.policies-accepted.ensures.admissible _ c.schema.ensures c.in_ok-checked.ensures.exact c.args.self.now c.self.view_is in
    let Has : ValidatorSchema → Type 0 = λ s.
    IfErr c.in_ok-checked.checked (λ f. request_has (schema_of s) (request_of c.args.request.now) f ≡ true) in
    let same = c.schema.ensures ∙ ap (λ s. schema_by s.0) c.self.view_is in
    record { exact = it.0; first = subst Has same c.in_ok-checked.ensures.first; safe = it.1; sliced = it.2 }
