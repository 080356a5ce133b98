use Rattle.std.proofs.Common.{refl}
use Rattle.cedar_conformance.specs.Premises.{AreFaultsOf}
use Rattle.cedar_conformance.proofs.MetPremises.{unmet, met, refused, fault_of}
use Rattle.cedar_conformance.proofs.premises.check_stored.Goals as goal

pub returns-in-Ok : goal.returns-in-Ok
returns-in-Ok c =
    let yes = met _ _ c.in-Ok.is c.in_ok-check_entities.ensures.exact in
    record { exact = (λ ok. yes, λ s. refl); first = tt }

pub returns-in-Err : goal.returns-in-Err
returns-in-Err c =
    let unfit = unmet _ _ c.in-Err.is c.in_ok-check_entities.ensures.exact in
    let faults : AreFaultsOf _ c.args.schema.now c.args.entities.now = record {
      unfit = unfit;
      some = fault_of _ _ _ c.in-Err.is c.in_ok-check_entities.ensures.some;
      there = fault_of _ _ _ c.in-Err.is c.in_ok-check_entities.ensures.there;
    } in
    record { exact = refused unfit; first = λ request r. (r, faults) }
