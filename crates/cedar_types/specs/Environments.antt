-- The environments that a schema declares.
use Rattle.std.specs.Prelude.{List, [], Option, Some, None, map}
use Rattle.std.specs.List.{flat_map}
use Rattle.cedar_types.specs.Names.{Path, Uid, type_of, uid_of}
use Rattle.cedar_types.specs.Types.{Ty, ty_of}
use Rattle.cedar_types.specs.Schemas.{Application, DeclaredAction}
use Rattle.cedar_types.specs.declared.base.schema.request_environments.UnlinkedRequestEnv.{UnlinkedRequestEnv}
pub mod RequestEnvs
pub mod Linking
pub mod LinkViews
pub mod SlotLinks
pub mod Representatives

-- the subject of a request, without slots
pub record DeclaredEnv : Type 0 where
  pub principal : Path
  pub action : Uid
  pub resource : Path
  pub context : Ty

abbrev pub declared_env : UnlinkedRequestEnv → DeclaredEnv
declared_env e = record {
  principal = type_of e.principal;
  action = uid_of e.action;
  resource = type_of e.resource;
  context = ty_of e.context.value;
}

-- one environment for each resource type
abbrev pub principal_environments : Uid → Ty → List Path → Path → List DeclaredEnv
principal_environments u context resources p =
    map (λ r. record { principal = p; action = u; resource = r; context = context }) resources

-- one environment for each principal type and resource type; none of an external action
abbrev pub action_environments : Uid → Option Application → List DeclaredEnv
action_environments u None = []
action_environments u (Some a) =
    flat_map (principal_environments u a.context a.resources) a.principals

-- one environment for each defined action, principal type and resource type that it applies to
abbrev pub environments_of : List DeclaredAction → List DeclaredEnv
environments_of acts = flat_map (λ a. action_environments a.name a.applies_to) acts
