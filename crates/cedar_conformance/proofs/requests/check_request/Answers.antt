use Rattle.std.proofs.Common.{◌∙◌}
use Rattle.cedar_types.specs.Schemas.Contents.{schema_of}
use Rattle.cedar_conformance.specs.Requests.{request_of}
use Rattle.cedar_conformance.proofs.DeclaredActions.{apart}
use Rattle.cedar_conformance.proofs.Outcomes.{decided, told}
use Rattle.cedar_conformance.proofs.RequestDecisions.{request_decides}
use Rattle.cedar_conformance.proofs.requests.check_request.Goals as goal

pub returns : goal.returns
returns c = record {
  exact =
      decided _ _ (c.answer.ensures.ok ∙ c.in_ok-found.ensures.none)
      (request_decides (schema_of c.args.schema.now) (request_of c.args.request.now) (apart c.args.schema.now));
  first = told _ c.answer.result _ c.answer.ensures.fault c.in_ok-found.ensures.there;
}
