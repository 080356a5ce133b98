use Rattle.std.proofs.Common.{◌≡◌, ◌++◌, map}
use Rattle.cedar_types.specs.Names.{type_of, uid_of}
use Rattle.cedar_types.specs.Types.{types_of, ty_of}
use Rattle.cedar_types.specs.Environments.{declared_env, principal_environments}
use Rattle.cedar_types.proofs.base.schema.environments.add_principal.Given as goal

-- The environments so far, and those of the remaining resource types, are all environments
abbrev pub invariant-loop-resource : goal.invariant-loop-resource
invariant-loop-resource l =
    map declared_env l.environments.items
    ++ principal_environments (uid_of l.action) (ty_of l.applies_to.context.value) (map type_of l.resource-iterator)
    (type_of l.principal) ≡ map declared_env l.fn.environments.items
    ++ principal_environments (uid_of l.fn.action) (ty_of l.fn.applies_to.context.value)
    (types_of l.fn.applies_to.resource_apply_spec) (type_of l.fn.principal)
