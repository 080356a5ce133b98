use Rattle.std.proofs.Common.{◌≡◌, ◌++◌, map, drop}
use Rattle.cedar_types.specs.Schemas.Declarations.{application, declared_action}
use Rattle.cedar_typechecker.specs.Scopes.{applications}
use Rattle.cedar_typechecker.proofs.rbac.actions.applications.Given as goal

-- the applications so far, and those of the actions that are left
abbrev pub invariant-loop-action : goal.invariant-loop-action
invariant-loop-action l =
    map (λ a. application a.now) l.defined.items ++ applications (map (λ a. declared_action a.now) (drop l.action-index l.actions))
    ≡ applications (map (λ a. declared_action a.now) l.fn.actions)
