use Rattle.std.proofs.Common.{◌≡◌, map}
use Rattle.std.specs.List.{list_any}
use Rattle.cedar_types.specs.Names.{type_of, uid_of, path_eq}
use Rattle.cedar_types.specs.Schemas.Declarations.{uids_of}
use Rattle.cedar_types.proofs.base.schema.memberships.has_action_of.Given as goal

-- The remaining actions decide the answer
abbrev pub invariant-loop-action : goal.invariant-loop-action
invariant-loop-action l =
    list_any (λ d. path_eq (type_of l.name) d.entity_type) (map uid_of l.action-iterator)
    ≡ list_any (λ d. path_eq (type_of l.fn.name) d.entity_type) (uids_of l.fn.actions)
