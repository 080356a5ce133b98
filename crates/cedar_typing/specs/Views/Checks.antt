-- Views of the program's checker and of its answers.
use Rattle.std.specs.Prelude.{List, map}
use Rattle.std.specs.Borrow.{Bor}
use Rattle.cedar_types.specs.declared.base.expressions.extensions.ExtensionSchemas.{ExtensionSchemas}
use Rattle.cedar_types.specs.declared.base.schema.ValidatorSchema.{ValidatorSchema}
use Rattle.cedar_types.specs.declared.base.templates.Template.{Template}
use Rattle.cedar_types.specs.declared.base.types.ValidationMode.{ValidationMode}
use Rattle.cedar_types.specs.declared.types.request_env.RequestEnv.{RequestEnv}
use Rattle.cedar_types.specs.Names.{text_of}
use Rattle.cedar_types.specs.Schemas.Contents.{schema_of}
use Rattle.cedar_types.specs.Environments.Linking.{checked_envs}
use Rattle.cedar_types.specs.Environments.RequestEnvs.{Env, env_of}
use Rattle.cedar_types.specs.Errors.{finding_of}
use Rattle.cedar_types.specs.Extensions.Functions.{Refusals}
use Rattle.cedar_types.specs.Extensions.{functions_of, overloaded_types_of}
use Rattle.cedar_types.specs.Templates.{template_of}
use Rattle.cedar_typing.specs.declared.typecheck.typechecker.PolicyCheck.{PolicyCheck}
use Rattle.cedar_typing.specs.declared.typecheck.typechecker.PolicyCheck.TheVariants.{Success, Irrelevant, Fail}
use Rattle.cedar_typing.specs.declared.typecheck.typechecker.Typechecker.{Typechecker}
use Rattle.cedar_typing.specs.PolicyCheck.{Verdict, succeeds, irrelevant, fails}
use Rattle.cedar_typing.specs.Soundness.Policies.{Basis}
use Rattle.cedar_typing.specs.Setting.{Setting}
use Rattle.cedar_typing.specs.TypedExpr.{typed_tree}

abbrev pub verdict_of : PolicyCheck → Verdict
verdict_of (Success e) = succeeds (typed_tree e)
verdict_of (Irrelevant es e) = irrelevant (map finding_of es.items) (typed_tree e)
verdict_of (Fail es) = fails (map finding_of es.items)

module _ {C : Type 0} where
  -- the parts of a checker: the schema, the extension functions and the mode
  unfoldable pub schema_by : Typechecker C → Bor ValidatorSchema
  schema_by c = c.schema

  unfoldable pub extensions_by : Typechecker C → Bor (ExtensionSchemas C)
  extensions_by c = c.extensions

  unfoldable pub mode_by : Typechecker C → ValidationMode
  mode_by c = c.mode

  -- the setting in which a template is typed. `meaning` gives the meaning of each check of
  -- arguments
  abbrev pub setting_within : (C → Refusals) → Typechecker C → Template → Env → Setting
  setting_within meaning c t env = record {
    env = record {
      schema = schema_of (schema_by c).now;
      mode = mode_by c;
      request_env = env;
      overloaded_types = overloaded_types_of (extensions_by c).now;
      policy = text_of t.id.text;
    };
    functions = functions_of meaning (extensions_by c).now;
  }

  abbrev pub setting_for : (C → Refusals) → Typechecker C → Template → RequestEnv → Setting
  setting_for meaning c t env = setting_within meaning c t (env_of env)

  -- the environments in which a checker checks a template
  abbrev pub envs_for : Typechecker C → Template → List Env
  envs_for c t = checked_envs (schema_of (schema_by c).now) (mode_by c) (template_of t)

  -- the basis of a checker, whatever the template and the environment
  abbrev pub basis_of : (C → Refusals) → Typechecker C → Basis
  basis_of meaning c = record {
    schema = schema_of (schema_by c).now;
    mode = mode_by c;
    table = record {
      functions = functions_of meaning (extensions_by c).now;
      overloaded_types = overloaded_types_of (extensions_by c).now;
    };
  }
