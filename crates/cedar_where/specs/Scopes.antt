-- Scopes in which a condition is compiled.
use Rattle.std.specs.Prelude.{[], ◌∷◌}
use Rattle.cedar_types.specs.Environments.{DeclaredEnv}
use Rattle.cedar_types.specs.Names.{Path, Uid}
use Rattle.cedar_types.specs.Schemas.{Schema}
use Rattle.cedar_types.specs.Types.{Ty, TEntity}

-- a schema, and the environment of the requests
pub record Scope : Type 0 where
  pub schema : Schema
  pub principal : Path
  pub action : Uid
  pub resource : Path
  -- the types of the entities of the principal's type, and of the resource's
  pub principal_type : Ty
  pub resource_type : Ty
  -- the type of the context
  pub context : Ty

abbrev pub scope_at : Schema → DeclaredEnv → Scope
scope_at s d = record {
  schema = s;
  principal = d.principal;
  action = d.action;
  resource = d.resource;
  principal_type = TEntity (d.principal ∷ []);
  resource_type = TEntity (d.resource ∷ []);
  context = d.context;
}
