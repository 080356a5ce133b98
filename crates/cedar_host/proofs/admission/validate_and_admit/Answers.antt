use Rattle.std.proofs.Common.{sym, ap, subst, ◌∙◌, true≢false}
use Rattle.std.proofs.lemmas.Result.{IfErr-weaker}
use Rattle.cedar_types.specs.declared.base.schema.ValidatorSchema.{ValidatorSchema}
use Rattle.cedar_types.specs.Schemas.Contents.{schema_of}
use Rattle.cedar_typechecker.specs.ValidatorViews.{schema_in}
use Rattle.cedar_conformance.specs.Premises.{ArePremises}
use Rattle.cedar_conformance.proofs.MetPremises.{refused}
use Rattle.cedar_host.specs.Safety.{sound_basis}
use Rattle.cedar_host.specs.Admission.{IsFirstPremise, IsFirstRefusal}
use Rattle.cedar_host.proofs.Admitted.{in_slices}
use Rattle.cedar_host.proofs.Refused.{first_of_premises}
use Rattle.cedar_host.proofs.admission.validate_and_admit.Goals as goal

pub returns-then-not-is_accepted-clause-exact : goal.returns-then-not-is_accepted-clause-exact
returns-then-not-is_accepted-clause-exact g c = record {
  found = c.in_ok-found.found;
  findings = c.in_ok-found.ensures.exact;
  exact = refused (λ both. true≢false (sym both.0 ∙ c.if-not-is_accepted.true));
  first = (c.if-not-is_accepted.true, c.in_ok-id.ensures.cases);
}

pub returns : goal.returns
returns g c =
    let b = sound_basis c.args.mode g.C.ArgumentCheck.refusal c.args.validator.now in
    let policy = c.args.policy.now in
    let accepted = c.if-not-is_accepted.false in
    let need = c.in_ok-found.ensures.sliced accepted in
    let same = c.schema-schema.ensures in
    let Met : ValidatorSchema → Type 0 = λ schema.
    ArePremises schema policy.template.now policy.values.now c.args.request.now c.args.entities.now in
    let decided = c.in_ok-checked.ensures in
    record {
      sliced = λ ok.
          in_slices b c.args.steps c.schema-schema.result.now policy.template.now policy.values.now c.args.request.now
          c.args.entities.now (ap schema_of (sym same)) need (decided.exact.0 ok);
      exact = record {
        found = c.in_ok-found.found;
        findings = c.in_ok-found.ensures.exact;
        exact =
            (λ ok. (accepted, subst Met same (decided.exact.0 ok)), λ both. decided.exact.1 (subst Met (sym same) both.1));
        first =
            IfErr-weaker c.in_ok-checked.checked
            (λ f. IsFirstPremise f c.schema-schema.result.now policy c.args.request.now c.args.entities.now)
            (λ f. IsFirstRefusal f c.in_ok-found.found (schema_in c.args.validator.now) policy c.args.request.now
            c.args.entities.now)
            (first_of_premises c.in_ok-found.found (schema_in c.args.validator.now) policy c.args.request.now
            c.args.entities.now c.schema-schema.result.now accepted same) decided.first;
      };
    }
