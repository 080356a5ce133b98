use Rattle.std.proofs.Common.{◌≡◌, map, drop}
use Rattle.std.specs.List.{list_all}
use Rattle.cedar_types.specs.Schemas.Declarations.{declared_action}
use Rattle.cedar_types.specs.Schemas.Formed.{application_is_formed}
use Rattle.cedar_types.specs.Schemas.{DeclaredAction}
use Rattle.cedar_types.proofs.base.schema.forms.actions_are_formed.Given as goal

-- The remaining actions decide the answer
abbrev pub invariant-loop-action : goal.invariant-loop-action
invariant-loop-action l =
    list_all (λ (a : DeclaredAction). application_is_formed a.applies_to)
    (map declared_action (drop l.action-index l.actions))
    ≡ list_all (λ (a : DeclaredAction). application_is_formed a.applies_to) (map declared_action l.fn.actions)
