use Rattle.std.proofs.Common.{refl}
use Rattle.cedar_conformance.proofs.MetPremises.{unmet, met, refused}
use Rattle.cedar_host.proofs.admission.check_accepted.Goals as goal

pub returns-in-Ok-clause-exact : goal.returns-in-Ok-clause-exact
returns-in-Ok-clause-exact c =
    let yes = met _ _ c.in-Ok.is c.in_ok-check_premises.ensures.exact in
    (λ ok. yes, λ d. refl)

pub returns-in-Err-clause-exact : goal.returns-in-Err-clause-exact
returns-in-Err-clause-exact c = refused (unmet _ _ c.in-Err.is c.in_ok-check_premises.ensures.exact)
