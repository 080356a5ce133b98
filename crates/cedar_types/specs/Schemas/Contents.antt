-- The contents of a schema.
use Rattle.std.specs.Prelude.{List, map}
use Rattle.cedar_types.specs.Schemas.{Schema}
use Rattle.cedar_types.specs.Schemas.Tables.{schema_in}
use Rattle.cedar_types.specs.Environments.{DeclaredEnv, declared_env}
use Rattle.cedar_types.specs.declared.base.schema.ValidatorSchema.{ValidatorSchema}

-- the declarations of a schema
unfoldable pub schema_of : ValidatorSchema → Schema
schema_of s = schema_in s.types s.actions

-- the environments that a schema keeps
abbrev pub kept_environments : ValidatorSchema → List DeclaredEnv
kept_environments s = map declared_env s.environments.items
