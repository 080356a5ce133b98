-- Views of a validator: its schema, its extension functions and its basis.
use Rattle.std.specs.Borrow.{Bor}
use Rattle.cedar_types.specs.declared.base.expressions.extensions.ExtensionSchemas.{ExtensionSchemas}
use Rattle.cedar_types.specs.declared.base.schema.ValidatorSchema.{ValidatorSchema}
use Rattle.cedar_types.specs.declared.base.types.ValidationMode.{ValidationMode}
use Rattle.cedar_types.specs.Extensions.Functions.{Refusals}
use Rattle.cedar_types.specs.Extensions.{functions_of, overloaded_types_of}
use Rattle.cedar_types.specs.Schemas.Contents.{schema_of}
use Rattle.cedar_typing.specs.Soundness.Policies.{Basis}
use Rattle.cedar_typechecker.specs.declared.rbac.validator.Validator.{Validator}

module _ {C : Type 0} where
  -- the schema and the extension functions by which it validates
  unfoldable pub schema_in : Validator C → ValidatorSchema
  schema_in v = v.schema

  unfoldable pub extensions_in : Validator C → Bor (ExtensionSchemas C)
  extensions_in v = v.extensions

-- the basis of a validator, in a mode
abbrev pub basis_in : {C : Type 0} → (C → Refusals) → Validator C → ValidationMode → Basis
basis_in meaning v m = record {
  schema = schema_of (schema_in v);
  mode = m;
  table = record {
    functions = functions_of meaning (extensions_in v).now;
    overloaded_types = overloaded_types_of (extensions_in v).now;
  };
}
