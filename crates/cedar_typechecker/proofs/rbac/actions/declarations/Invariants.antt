use Rattle.std.proofs.Common.{◌≡◌, ◌++◌, map, drop}
use Rattle.cedar_types.specs.Schemas.Declarations.{declared_action}
use Rattle.cedar_types.specs.Names.{uid_of}
use Rattle.cedar_types.specs.Schemas.Contents.{schema_of}
use Rattle.cedar_typechecker.specs.Scopes.{declarations}
use Rattle.cedar_typechecker.proofs.rbac.actions.declarations.Given as goal

-- the declarations so far, and those of the actions that are left
abbrev pub invariant-loop-uid : goal.invariant-loop-uid
invariant-loop-uid l =
    map (λ a. declared_action a.now) l.declared.items
    ++ declarations (schema_of l.schema).actions (map (λ u. uid_of u.now) (drop l.uid-index l.uids))
    ≡ declarations (schema_of l.fn.schema).actions (map (λ u. uid_of u.now) l.fn.uids)
