use Rattle.std.proofs.Common.{refl, sym, ap, ◌∙◌}
use Rattle.cedar_conformance.specs.Answers.{fault_in}
use Rattle.cedar_conformance.proofs.MetPremises.{unmet, met, refused}
use Rattle.cedar_host.proofs.accepted.check_links.Goals as goal

pub returns-in-Ok-clause-exact : goal.returns-in-Ok-clause-exact
returns-in-Ok-clause-exact c =
    let yes = met _ _ c.in-Ok.is c.in_ok-check_policy.ensures.exact in
    (λ ok. yes, λ w. refl)

pub returns-in_ok-id-in-Err-clause-exact : goal.returns-in_ok-id-in-Err-clause-exact
returns-in_ok-id-in-Err-clause-exact c = refused (unmet _ _ c.in-Err.is c.in_ok-check_policy.ensures.exact)

pub returns-in_ok-id-in-Err-clause-fault : goal.returns-in_ok-id-in-Err-clause-fault
returns-in_ok-id-in-Err-clause-fault c =
    (c.in_ok-id-in-Err.ensures.cases, sym c.in_ok-check_policy.ensures.fault ∙ ap fault_in c.in-Err.is)
