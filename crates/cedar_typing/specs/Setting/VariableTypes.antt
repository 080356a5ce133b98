-- The types of the variables as the checker keeps them. Each is compared with the environment's by the
-- test for equal types, because a value can keep as a fact only a type with at most one inhabitant, and
-- the truth of a test is one.
use Rattle.std.specs.Prelude.{◌≡◌, true}
use Rattle.cedar_types.specs.Types.Bounds.{ty_eq}
use Rattle.cedar_types.specs.Environments.RequestEnvs.{Env, principal_ty, resource_ty, context_ty}
use Rattle.cedar_types.specs.Types.{ty_of}
use Rattle.cedar_typing.specs.declared.typecheck.variable_types.VariableTypes.{VariableTypes}

-- the kept types of principal, resource and context are those of the environment
abbrev pub HasPrincipal : Env → VariableTypes → Type 0
HasPrincipal r v = ty_eq (ty_of v.principal) (principal_ty r) ≡ true

abbrev pub HasResource : Env → VariableTypes → Type 0
HasResource r v = ty_eq (ty_of v.resource) (resource_ty r) ≡ true

abbrev pub HasContext : Env → VariableTypes → Type 0
HasContext r v = ty_eq (ty_of v.context) (context_ty r) ≡ true
