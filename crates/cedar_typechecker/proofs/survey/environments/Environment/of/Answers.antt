use Rattle.std.proofs.Common.{◌∙◌, option_map, ap}
use Rattle.cedar_types.specs.Names.{type_of}
use Rattle.cedar_typechecker.proofs.SurveyedErrors.{request_seen, request_about, request_kept, types_lent, principal_about, resource_about}
use Rattle.cedar_typechecker.proofs.survey.environments.Environment.of.Goals as goal

pub returns : goal.returns
returns c =
    let e = c.args.env.now in
    let request = request_kept c.in_ok-request.request
    ∙ (ap (option_map request_seen) c.in_ok-request.ensures ∙ request_about e) in
    let principal = c.in_ok-principal_slot.ensures
    ∙ (types_lent c.principal_slot.result
    ∙ (ap (option_map type_of) c.principal_slot.ensures ∙ principal_about e)) in
    let resource = c.in_ok-resource_slot.ensures
    ∙ (types_lent c.resource_slot.result
    ∙ (ap (option_map type_of) c.resource_slot.ensures ∙ resource_about e)) in
    λ i. record {
      request = request i;
      principal_slot = principal i;
      resource_slot = resource i;
    }
