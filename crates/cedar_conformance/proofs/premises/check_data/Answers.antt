use Rattle.std.proofs.lemmas.Result.{IfErr-weaker}
use Rattle.cedar_conformance.proofs.MetPremises.{unmet, met, refused, fault_of, request_of_data, data_decided}
use Rattle.cedar_conformance.proofs.premises.check_data.Goals as goal

pub returns-in_ok-checked-in-Ok : goal.returns-in_ok-checked-in-Ok
returns-in_ok-checked-in-Ok c =
    let of_request = met _ _ c.in-Ok.is c.in_ok-check_request.ensures.exact in
    record {
      exact =
          data_decided c.args.schema.now c.args.request.now c.args.entities.now c.in_ok-checked-in-Ok.checked of_request
          c.in_ok-checked-in-Ok.ensures.exact;
      first =
          IfErr-weaker c.in_ok-checked-in-Ok.checked _ _ (λ f h. h c.args.request.now of_request)
          c.in_ok-checked-in-Ok.ensures.first;
    }

pub returns-in-Err : goal.returns-in-Err
returns-in-Err c =
    let unfit = unmet _ _ c.in-Err.is c.in_ok-check_request.ensures.exact in
    record {
      exact = refused (λ d. unfit (request_of_data c.args.schema.now c.args.request.now c.args.entities.now d));
      first = (unfit, fault_of _ _ _ c.in-Err.is c.in_ok-check_request.ensures.first);
    }
