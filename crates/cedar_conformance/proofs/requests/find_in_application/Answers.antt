use Rattle.std.proofs.Common.{◌∙◌, sym}
use Rattle.cedar_types.specs.Names.{type_of}
use Rattle.cedar_types.specs.Schemas.Declarations.{application}
use Rattle.cedar_conformance.specs.Values.{record_of}
use Rattle.cedar_conformance.proofs.RequestFaults.{principal_there, resource_there}
use Rattle.cedar_conformance.proofs.requests.find_in_application.Goals as goal

pub returns-then-not-is_among_types-clause-there : goal.returns-then-not-is_among_types-clause-there
returns-then-not-is_among_types-clause-there c =
    principal_there (application c.args.applies_to.now) (record_of c.args.request.now.context)
    c.args.request.now.principal.entity_type c.in_ok-found.found (type_of c.args.request.now.resource.entity_type)
    c.in_ok-found.ensures.cases (sym c.is_among_types.ensures ∙ c.if-not-is_among_types.true)

pub returns-then-not-is_among_types-2-clause-there : goal.returns-then-not-is_among_types-2-clause-there
returns-then-not-is_among_types-2-clause-there c =
    resource_there (application c.args.applies_to.now) (record_of c.args.request.now.context)
    (type_of c.args.request.now.principal.entity_type) c.args.request.now.resource.entity_type c.in_ok-found-2.found
    c.in_ok-found-2.ensures.cases (sym c.is_among_types.ensures ∙ c.if-not-is_among_types.false)
    (sym c.is_among_types-2.ensures ∙ c.if-not-is_among_types-2.true)
