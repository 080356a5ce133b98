-- Requests: the request that a program holds, as the request of a world.
use Rattle.cedar_types.specs.Names.{uid_of}
use Rattle.cedar_typing.specs.Evaluation.World as world
use Rattle.cedar_conformance.specs.declared.requests.Request.{Request}
use Rattle.cedar_conformance.specs.Values.{record_of}

abbrev pub request_of : Request → world.Request
request_of r = record {
  principal = uid_of r.principal;
  action = uid_of r.action;
  resource = uid_of r.resource;
  context = record_of r.context;
}
