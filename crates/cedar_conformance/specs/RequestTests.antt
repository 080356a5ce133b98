-- Request tests: whether a request is one of some environment.
use Rattle.std.specs.Prelude.{Bool, false, ◌&&◌, Option, Some, None}
use Rattle.cedar_types.specs.Names.{Path, Uid}
use Rattle.cedar_types.specs.Schemas.{Application, DeclaredAction, Schema, is_among, action_named}
use Rattle.cedar_types.specs.Values.{VRecord, Entries}
use Rattle.cedar_conformance.specs.Tests.{has_type}

-- the action applies to principals of type p and resources of type r, and the context has its type
abbrev pub application_fits : Option Application → Path → Path → Entries → Bool
application_fits None p r context = false
application_fits (Some a) p r context =
    is_among a.principals p && (is_among a.resources r && has_type a.context (VRecord context))

-- the declaration of the action fits the rest of the request
abbrev pub declaration_fits : Option DeclaredAction → Path → Path → Entries → Bool
declaration_fits None p r context = false
declaration_fits (Some a) p r context = application_fits a.applies_to p r context

abbrev pub request_fits : Schema → Uid → Uid → Uid → Entries → Bool
request_fits s principal action resource context =
    declaration_fits (action_named s.actions action) principal.entity_type resource.entity_type
    context
