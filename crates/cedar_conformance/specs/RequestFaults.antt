-- The meaning of a request's fault: the request has it, and none that comes before it.
use Rattle.std.specs.Prelude.{Bool, false, not, ◌&&◌, Option, Some, None}
use Rattle.cedar_types.specs.Names.{Path, Uid, type_of, uid_of, path_eq, uid_eq}
use Rattle.cedar_types.specs.Schemas.{Application, DeclaredAction, Schema, is_among, action_named}
use Rattle.cedar_types.specs.Values.{VRecord, Entries}
use Rattle.cedar_typing.specs.Evaluation.World.{Request}
use Rattle.cedar_conformance.specs.declared.requests.RequestFault.{RequestFault}
use Rattle.cedar_conformance.specs.declared.requests.RequestFault.TheVariants as fault
use Rattle.cedar_conformance.specs.Tests.{has_type}

-- the action applies to other principals than those of type p; or to these, and to other resources
-- than those of type r; or to these too, but the context does not have its type
abbrev pub application_has : Application → Path → Path → Entries → RequestFault → Bool
application_has a p r context (fault.PrincipalType t) = path_eq (type_of t) p && not (is_among a.principals p)
application_has a p r context (fault.ResourceType t) =
    is_among a.principals p && (path_eq (type_of t) r && not (is_among a.resources r))
application_has a p r context (fault.Context f) =
    is_among a.principals p && (is_among a.resources r && not (has_type a.context (VRecord context)))
application_has a p r context f = false

-- the action is declared elsewhere, so that the types to which it applies are unknown
abbrev pub applied_has : Option Application → Uid → Path → Path → Entries → RequestFault → Bool
applied_has (Some a) action p r context f = application_has a p r context f
applied_has None action p r context (fault.ExternalAction u) = uid_eq (uid_of u) action
applied_has None action p r context f = false

-- the action is not declared
abbrev pub declaration_has : Option DeclaredAction → Uid → Path → Path → Entries → RequestFault → Bool
declaration_has (Some d) action p r context f = applied_has d.applies_to action p r context f
declaration_has None action p r context (fault.UndeclaredAction u) = uid_eq (uid_of u) action
declaration_has None action p r context f = false

-- the request has this fault, and none that comes before it
abbrev pub request_has : Schema → Request → RequestFault → Bool
request_has s r f =
    declaration_has (action_named s.actions r.action) r.action r.principal.entity_type r.resource.entity_type r.context f
