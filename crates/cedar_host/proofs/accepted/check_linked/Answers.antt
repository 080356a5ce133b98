use Rattle.std.proofs.Common.{sym, ◌∙◌, true≢false}
use Rattle.std.proofs.lemmas.Result.{IfErr-weaker}
use Rattle.cedar_conformance.proofs.MetPremises.{refused}
use Rattle.cedar_host.specs.Accepted.{IsFaultOfForm, IsFirstFaultOf}
use Rattle.cedar_host.proofs.Refused.{first_of_form}
use Rattle.cedar_host.proofs.accepted.check_linked.Goals as goal

pub returns-then-not-is_accepted-clause-exact : goal.returns-then-not-is_accepted-clause-exact
returns-then-not-is_accepted-clause-exact g c = record {
  found = c.in_ok-found.found;
  findings = c.in_ok-found.ensures.exact;
  exact = refused (λ both. true≢false (sym both.0 ∙ c.if-not-is_accepted.true));
  first = (c.if-not-is_accepted.true, c.in_ok-id.ensures.cases);
}

pub returns : goal.returns
returns g c =
    let accepted = c.if-not-is_accepted.false in
    let found = c.in_ok-found.found in
    let policy = c.args.policy.now in
    let decided = c.in_ok-checked.ensures in
    record {
      exact = record {
        found = found;
        findings = c.in_ok-found.ensures.exact;
        exact = (λ ok. (accepted, decided.exact.0 ok), λ both. decided.exact.1 both.1);
        first =
            IfErr-weaker c.in_ok-checked.checked (λ f. IsFaultOfForm f policy) (λ f. IsFirstFaultOf f found policy)
            (first_of_form found policy accepted) decided.fault;
      };
      admissible = λ ok. record {
        checked = c.in_ok-found.ensures.checked accepted;
        sliced = c.in_ok-found.ensures.sliced accepted;
        well_formed = decided.exact.0 ok;
      };
    }
