use Rattle.std.proofs.Common.{◌≡◌, ◌++◌, map, Some}
use Rattle.std.specs.List.{flat_map}
use Rattle.cedar_types.specs.Names.{type_of, uid_of}
use Rattle.cedar_types.specs.Types.{types_of, ty_of}
use Rattle.cedar_types.specs.Schemas.Declarations.{application}
use Rattle.cedar_types.specs.Environments.{declared_env, principal_environments, action_environments}
use Rattle.cedar_types.proofs.base.schema.environments.add_action.Given as goal

-- The environments so far, and those of the remaining principal types, are all environments
abbrev pub invariant-loop-principal : goal.invariant-loop-principal
invariant-loop-principal l =
    map declared_env l.environments.items ++ flat_map (principal_environments (uid_of l.action)
    (ty_of l.applies_to.context.value) (types_of l.applies_to.resource_apply_spec))
    (map type_of l.principal-iterator) ≡ map declared_env l.fn.environments.items
    ++ action_environments (uid_of l.fn.action) (Some (application l.fn.applies_to))
