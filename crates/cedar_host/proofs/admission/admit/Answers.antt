use Rattle.std.proofs.Common.{sym, subst}
use Rattle.std.proofs.lemmas.Result.{IfErr-weaker}
use Rattle.cedar_types.specs.declared.base.schema.ValidatorSchema.{ValidatorSchema}
use Rattle.cedar_host.specs.Accepted.{schema_by}
use Rattle.cedar_host.specs.Admission.{IsAdmitted, IsFirstNotAdmitted}
use Rattle.cedar_host.proofs.Admitted.{evaluate_safely, evaluate_in_slices}
use Rattle.cedar_host.proofs.admission.admit.Goals as goal

pub returns : goal.returns
returns g c =
    let meaning = g.C.ArgumentCheck.refusal in
    let policies = c.args.policies.now in
    let request = c.args.request.now in
    let entities = c.args.entities.now in
    let all = c.policies-accepted.ensures.admissible in
    let Admits : ValidatorSchema → Type 0 = λ schema. IsAdmitted schema request entities in
    let same = c.schema.ensures in
    let decided = c.in_ok-checked.ensures in
    record {
      exact = (λ ok. subst Admits same (decided.exact.0 ok), λ a. decided.exact.1 (subst Admits (sym same) a));
      first =
          IfErr-weaker c.in_ok-checked.checked (λ f. IsFirstNotAdmitted f c.schema.result.now request entities)
          (λ f. IsFirstNotAdmitted f (schema_by policies) request entities)
          (λ f h. subst (λ schema. IsFirstNotAdmitted f schema request entities) same h) decided.first;
      safe = λ ok.
          let a = subst Admits same (decided.exact.0 ok) in
          evaluate_safely meaning policies request entities a.closed a.conforming all;
      sliced = λ ok.
          let a = subst Admits same (decided.exact.0 ok) in
          evaluate_in_slices meaning policies request entities a.closed a.conforming all;
    }
